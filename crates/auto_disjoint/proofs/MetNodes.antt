-- The nodes that are met, and the states to which words lead.
use Rattle.std.proofs.Common.{◌≡◌, ◌⊎◌, ℕ, ◌<◌, ◌≤◌, ◌+◌, ◌%◌, ◌^◌, min, slice_get, get_or, Some, Bool, true, false, true≢false, ◌&&◌, nat_eq, if◌then◌else◌, List, [], ◌∷◌, length, arith, refl, sym, ap, ◌∙◌, subst, inl, inr}
use Rattle.std.specs.Int.{bit_at}
use Rattle.std.proofs.lemmas.Bool.{cases_lt, cases_eq}
use Rattle.std.proofs.lemmas.Option.{slice_get-get_or, same_Some}
use Rattle.std.proofs.lemmas.Nat.{mod_below, pow_pos}
use Rattle.track_word.specs.declared.tracks.Var.{Var}
use Rattle.track_word.specs.Word.{IsWord}
use Rattle.track_word.specs.Tracks.{restrict, part_of}
use Rattle.track_word.proofs.LetterBits.{low_bits}
use Rattle.letter_diagram.specs.Numbering.{PairsKept}
use Rattle.diagram_product.specs.declared.sides.PairTest.{PairTest}
use Rattle.diagram_product.specs.Absorbed.{absorbed}
use Rattle.diagram_product.specs.Shapes.{IsPairTest}
use Rattle.diagram_product.proofs.SidedPairs.{CanBePaired-low, CanBePaired-high, pair_at-split, low_answer, high_answer}
use Rattle.auto_core.specs.Automaton.{first_state, next_state, state_of, is_final, Accepts}
use Rattle.auto_walk.specs.Walker.{IsReached}
use Rattle.auto_walk.proofs.WalkLemmas.{IsReached-first, IsReached-next}
use Rattle.auto_bool.specs.declared.connective.Connective.TheVariants.{And}
use Rattle.auto_bool.specs.Both.{place_of_pair, final_pair}
use Rattle.auto_bool.proofs.SideLemmas.{CanBeRead-side, Reads-side}
use Rattle.auto_bool.proofs.AbsorbedPairs.{same-flag, place-pair_of}
use Rattle.auto_bool.proofs.PairLemmas.{first_of_two, second_of_two, place_of-pair}
use Rattle.auto_disjoint.specs.declared.meeting.Meeting.{Meeting}
use Rattle.auto_disjoint.specs.Apart.{HaveCommonWord}
use Rattle.auto_disjoint.specs.Rows.{IsRowNode}
use Rattle.auto_disjoint.specs.Met.{IsMetIn, Adds}
use Rattle.auto_disjoint.specs.Meetings.{walker_of, states_at, IsMet, AreMet, AreRowNodes, AreFirstNodes, AreStatesSettled, HasSmaller, AreSettled}
use Rattle.auto_disjoint.proofs.MetPairs.{IsMetIn-kept}

pub AreMet-add : {m : Meeting} {old new : List (ℕ × ℕ)} {pair : ℕ × ℕ} → Adds old new pair → IsMet m pair → AreMet m old → AreMet m new
AreMet-add {m} adds one all nodes there = elim (adds.only nodes there) [ inl was ↦ all nodes was | inr is ↦ subst (IsMet m) (sym is) one ]

AreStatesSettled-kept : {m : Meeting} {old new : List (ℕ × ℕ)} {states : ℕ × ℕ} → PairsKept old new → AreStatesSettled m old states → AreStatesSettled m new states
AreStatesSettled-kept kept (inl rejects) = inl rejects
AreStatesSettled-kept kept (inr on) = inr (record { rejected = on.rejected; nodes = on.nodes; there = IsMetIn-kept kept on.there; rows = on.rows })

pub AreSettled-kept : {m : Meeting} {old new : List (ℕ × ℕ)} {nodes : ℕ × ℕ} → PairsKept old new → AreSettled m old nodes → AreSettled m new nodes
AreSettled-kept {m} {old} {new} {nodes} kept settled letter = elim (settled letter) [
  | inl states ↦ inl (AreStatesSettled-kept kept states)
  | inr has ↦ inr (record { smaller = has.smaller; there = IsMetIn-kept kept has.there; same = has.same; less = has.less })
]

-- both parts of a test
module _ {m : Meeting} {nodes : ℕ × ℕ} (test : PairTest) (met : IsMet m nodes) (is : IsPairTest m.sides m.none nodes.0 nodes.1 test) where
  pub IsMet-low : IsMet m test.low
  IsMet-low = record {
    read = CanBePaired-low met.read is.left is.right;
    reached = λ letter.
        let answer = low_answer met.read is.left is.right letter in
        subst (λ (p : ℕ × ℕ). IsReached (walker_of m) (place_of_pair p)) (sym answer.1) (met.reached answer.0);
  }

  pub IsMet-high : IsMet m test.high
  IsMet-high = record {
    read = CanBePaired-high met.read is.left is.right;
    reached = λ letter.
        let answer = high_answer met.read is.left is.right letter in
        subst (λ (p : ℕ × ℕ). IsReached (walker_of m) (place_of_pair p)) (sym answer.1) (met.reached answer.0);
  }

  one_looks : (x y : ℕ) → test.track ≡ min x y → (x ≡ test.track) ⊎ (y ≡ test.track)
  one_looks x y e = elim (cases_lt x y) [ inl less ↦ inl (omega (arith, less, e)) | inr most ↦ inr (omega (arith, most, e)) ]

  low_less : test.low.0 + test.low.1 < nodes.0 + nodes.1
  low_less =
      let l = is.left.low_within in
      let r = is.right.low_within in
      elim (one_looks _ _ is.top) [
        | inl here ↦ let less = is.left.low_smaller here in omega (arith, l, r, less)
        | inr there ↦ let less = is.right.low_smaller there in omega (arith, l, r, less)
      ]

  high_less : test.high.0 + test.high.1 < nodes.0 + nodes.1
  high_less =
      let l = is.left.high_within in
      let r = is.right.high_within in
      elim (one_looks _ _ is.top) [
        | inl here ↦ let less = is.left.high_smaller here in omega (arith, l, r, less)
        | inr there ↦ let less = is.right.high_smaller there in omega (arith, l, r, less)
      ]

  pub AreSettled-test : {seen : List (ℕ × ℕ)} → IsMetIn seen test.low → IsMetIn seen test.high → AreSettled m seen nodes
  AreSettled-test {seen} low high letter = by (nat_eq (bit_at letter test.track) 0) (pair_at-split met.read is.left is.right letter)
    where
      by : (c : Bool) → states_at m nodes letter ≡ (if c then states_at m test.low letter else states_at m test.high letter)
          → AreStatesSettled m seen (states_at m nodes letter) ⊎ HasSmaller m seen nodes letter
      by true e = inr (record { smaller = test.low; there = low; same = sym e; less = low_less })
      by false e = inr (record { smaller = test.high; there = high; same = sym e; less = high_less })

pub IsReached-pair : {m : Meeting} {nodes states : ℕ × ℕ} → IsMet m nodes → ((letter : ℕ) → states_at m nodes letter ≡ states) → IsReached (walker_of m) (place_of_pair states)
IsReached-pair {m} met same = subst (λ (p : ℕ × ℕ). IsReached (walker_of m) (place_of_pair p)) (same 0) (met.reached 0)

-- the nodes of two rows
module _ (m : Meeting) (left_row right_row : ℕ → ℕ) (nodes : ℕ × ℕ) (left : IsRowNode m.left.now left_row nodes.0) (right : IsRowNode m.right.now right_row nodes.1) where
  pub rows_lead : (letter : ℕ) → letter < 2 ^ length m.tracks.items
      → states_at m nodes letter
      ≡ absorbed m.absorbing (left_row (restrict m.tracks.items m.left.now.tracks letter)) (right_row (restrict m.tracks.items m.right.now.tracks letter))
  rows_lead letter below =
      let l = Reads-side m.tracks.items m.left.now m.sides.left m.left_side m.none nodes.0 left_row left.map in
      let r = Reads-side m.tracks.items m.right.now m.sides.right m.right_side m.none nodes.1 right_row right.map in
      λ i. absorbed (m.absorbs i) (l.reads letter below i) (r.reads letter below i)

  rows_low : (letter : ℕ) → states_at m nodes letter ≡ states_at m nodes (letter % 2 ^ length m.tracks.items)
  rows_low letter =
      let l = Reads-side m.tracks.items m.left.now m.sides.left m.left_side m.none nodes.0 left_row left.map in
      let r = Reads-side m.tracks.items m.right.now m.sides.right m.right_side m.none nodes.1 right_row right.map in
      let agree = λ (k : ℕ) (below : k < length m.tracks.items). low_bits letter (length m.tracks.items) k below in
      let l_same = l.narrow letter (letter % 2 ^ length m.tracks.items) agree in
      let r_same = r.narrow letter (letter % 2 ^ length m.tracks.items) agree in
      λ i. absorbed m.sides.absorbing (l_same i) (r_same i)

  pub IsMet-rows : ((letter : ℕ) → letter < 2 ^ length m.tracks.items
      → IsReached (walker_of m)
      (place_of_pair (absorbed m.absorbing (left_row (restrict m.tracks.items m.left.now.tracks letter)) (right_row (restrict m.tracks.items m.right.now.tracks letter)))))
      → IsMet m nodes
  IsMet-rows reached = record {
    read = record {
      left = CanBeRead-side m.tracks.items m.left.now m.sides.left m.left_side m.none nodes.0 left.known left.narrow;
      right = CanBeRead-side m.tracks.items m.right.now m.sides.right m.right_side m.none nodes.1 right.known right.narrow;
    };
    reached = λ letter.
        let below = mod_below letter (2 ^ length m.tracks.items) (pow_pos (length m.tracks.items)) in
        let low = letter % 2 ^ length m.tracks.items in
        subst (λ (p : ℕ × ℕ). IsReached (walker_of m) (place_of_pair p)) (sym (rows_low letter ∙ rows_lead low below)) (reached low below);
  }

module _ (m : Meeting) (nodes : ℕ × ℕ) (left : IsRowNode m.left.now (first_state m.left.now) nodes.0) (right : IsRowNode m.right.now (first_state m.right.now) nodes.1) where
  pub IsMet-first : IsMet m nodes
  IsMet-first = IsMet-rows m (first_state m.left.now) (first_state m.right.now) nodes left right (λ letter below. IsReached-first (walker_of m) letter below)

  pub AreFirstNodes-rows : AreFirstNodes m nodes
  AreFirstNodes-rows = record { leads = rows_lead m (first_state m.left.now) (first_state m.right.now) nodes left right }

module _ (m : Meeting) (states nodes : ℕ × ℕ) (left : IsRowNode m.left.now (next_state m.left.now states.0) nodes.0)
    (right : IsRowNode m.right.now (next_state m.right.now states.1) nodes.1) where
  pub IsMet-next : IsReached (walker_of m) (place_of_pair states) → IsMet m nodes
  IsMet-next reached =
      IsMet-rows m (next_state m.left.now states.0) (next_state m.right.now states.1) nodes left right (λ letter below. IsReached-next (walker_of m) letter below reached)

  pub AreRowNodes-rows : AreRowNodes m states nodes
  AreRowNodes-rows = record { leads = rows_lead m (next_state m.left.now states.0) (next_state m.right.now states.1) nodes left right }

  pub AreStatesSettled-rows : {seen : List (ℕ × ℕ)} → final_pair m.left.now m.right.now And (place_of_pair states) ≡ false → IsMetIn seen nodes → AreStatesSettled m seen states
  AreStatesSettled-rows rejected there = inr (record { rejected = rejected; nodes = nodes; there = there; rows = AreRowNodes-rows })

-- the states to which a word leads
module _ (m : Meeting) (left right : ℕ) (reached : IsReached (walker_of m) (left ∷ right ∷ [])) where
  pub states_known : (left < length m.left.now.accept) × (right < length m.right.now.accept)
  states_known =
      let pair = place-pair_of m.absorbing m.tracks.items m.left.now m.right.now And m.left_side.valid m.right_side.valid m.deciding_states reached.word reached.is_word.nonempty in
      let e = sym pair.is ∙ reached.leads in
      (subst (λ n. n < length m.left.now.accept) (first_of_two _ _ _ _ e) pair.left_known, subst (λ n. n < length m.right.now.accept) (second_of_two _ _ _ _ e) pair.right_known)

  both_true : (p q : Bool) → (p && q) ≡ true → (p ≡ true) × (q ≡ true)
  both_true true q h = (refl, h)
  both_true false q h = absurd (true≢false (sym h))

  pub common_word : final_pair m.left.now m.right.now And (left ∷ right ∷ []) ≡ true → HaveCommonWord m.left.now m.right.now
  common_word accepted =
      let flag =
      sym (ap (final_pair m.left.now m.right.now And) (place_of-pair m.tracks.items m.left.now m.right.now And reached.word reached.is_word.nonempty))
      ∙ sym (same-flag m.absorbing m.tracks.items m.left.now m.right.now And m.deciding_states reached.word reached.is_word.nonempty)
      ∙ ap (final_pair m.left.now m.right.now And) reached.leads
      ∙ accepted in
      let both =
      both_true (is_final m.left.now (state_of m.left.now (part_of m.tracks.items m.left.now.tracks reached.word)))
      (is_final m.right.now (state_of m.right.now (part_of m.tracks.items m.right.now.tracks reached.word))) flag in
      record {
        word = reached.word;
        is_word = subst (λ (t : List Var). IsWord (length t) reached.word) m.tracks_are reached.is_word;
        left = subst (λ (t : List Var). Accepts m.left.now (part_of t m.left.now.tracks reached.word)) m.tracks_are both.0;
        right = subst (λ (t : List Var). Accepts m.right.now (part_of t m.right.now.tracks reached.word)) m.tracks_are both.1;
      }

-- the nodes at the places up to one more are settled, as more are met
pub settled_more : {m : Meeting} {old new : List (ℕ × ℕ)} (visited : ℕ) {here : ℕ × ℕ} → PairsKept old new → visited ≤ length old → slice_get old visited ≡ Some here
    → AreSettled m new here
    → ((number : ℕ) (nodes : ℕ × ℕ) → number < visited → slice_get old number ≡ Some nodes → AreSettled m old nodes)
    → (number : ℕ) (nodes : ℕ × ℕ) → number < visited + 1 → slice_get new number ≡ Some nodes → AreSettled m new nodes
settled_more {m} {old} {new} visited {here} kept within at settled before number nodes less is = elim (cases_eq number visited) [
  | inl last ↦ subst (AreSettled m new) (same_Some _ _ (sym (kept.at visited here at) ∙ sym (ap (slice_get new) last) ∙ is)) settled
  | inr other ↦
      let below : number < visited = omega (arith, other, less) in
      let was = slice_get-get_or old number nodes (omega (arith, below, within)) in
      let same = same_Some _ _ (sym (kept.at number (get_or old number nodes) was) ∙ is) in
      AreSettled-kept kept (before number nodes below (was ∙ ap Some same))
]
