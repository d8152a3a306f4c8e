-- Pairs of states as places, and rows of them.
use Rattle.std.proofs.Common.{◌≡◌, ◌≢◌, ◌↔◌, ◌⊎◌, ℕ, ◌<◌, ◌%◌, ◌^◌, Bool, true, false, IsTrue, ◌&&◌, ◌||◌, not, List, [], ◌∷◌, length, map, get_or, slice_get, Some, AllPairs, arith, refl, sym, ap, ◌∙◌, subst, inl, inr, true≢false}
use Rattle.std.specs.List.{fold}
use Rattle.std.specs.Option.{option_map}
use Rattle.std.proofs.lemmas.Nat.{mod_below, pow_pos}
use Rattle.std.proofs.lemmas.List.{length-map}
use Rattle.std.proofs.lemmas.Option.{slice_get-get_or, slice_get_within, get_or_from_slice_get, same_Some, slice_get-map}
use Rattle.track_word.specs.declared.tracks.Var.{Var}
use Rattle.track_word.specs.Word.{IsWord}
use Rattle.track_word.specs.Tracks.{with_vars, restrict, part_of}
use Rattle.letter_diagram.specs.declared.diagrams.Shape.{Shape}
use Rattle.letter_diagram.specs.Diagram.{map_at}
use Rattle.diagram_product.specs.declared.absorbing.Absorbing.{Absorbing}
use Rattle.diagram_product.specs.Absorbed.{absorbed, ArePairs}
use Rattle.letter_diagram.specs.Numbering.{PairsKept}
use Rattle.letter_diagram.proofs.Lists.{one_place}
use Rattle.auto_core.specs.Automaton.{Automaton, IsAutomaton, next_state, run, state_of, is_final, Accepts}
use Rattle.auto_core.specs.Reduced.{AllReached}
use Rattle.auto_walk.specs.Walker.{Walker, place_of, IsReached, IsWalked}
use Rattle.auto_walk.specs.Rows.{AreNumbered, Extends, IsRow}
use Rattle.auto_walk.proofs.WalkLemmas.{All-at}
use Rattle.track_word.proofs.LetterBits.{low_bits}
use Rattle.auto_bool.specs.declared.connective.Connective.{Connective}
use Rattle.auto_bool.specs.declared.connective.Connective.TheVariants.{And, Or, AndNot}
use Rattle.auto_bool.specs.Both.{combined, place_of_pair, walker_over, both_walker}
use Rattle.auto_bool.specs.Sides.{Reads}
use Rattle.auto_bool.specs.Absorbed.{AreSinks, absorbing_walker, IsProduct}
use Rattle.auto_bool.specs.Words.{AcceptsBy}
use Rattle.auto_bool.proofs.AbsorbedPairs.{place-pair_of, same-flag}

pub get_pair : (pairs : List (ℕ × ℕ)) (number : ℕ) (pair : ℕ × ℕ) → slice_get pairs number ≡ Some pair → slice_get (map place_of_pair pairs) number ≡ Some (place_of_pair pair)
get_pair pairs number pair at = slice_get-map place_of_pair pairs number ∙ ap (option_map place_of_pair) at

pub Extends-pairs : {old new : List (ℕ × ℕ)} → PairsKept old new → Extends (map place_of_pair old) (map place_of_pair new)
Extends-pairs {old} {new} kept = record {
  kept = λ number place at.
      let within : number < length old = let w = slice_get_within (map place_of_pair old) number place at in let l = length-map old place_of_pair in omega (arith, w, l) in
      let was = slice_get-get_or old number (0, 0) within in
      let same = same_Some _ _ (sym (get_pair old number (get_or old number (0, 0)) was) ∙ at) in
      get_pair new number (get_or old number (0, 0)) (kept.at number (get_or old number (0, 0)) was) ∙ ap Some same;
}

pub same_pair : (p q : ℕ × ℕ) → place_of_pair p ≡ place_of_pair q → p ≡ q
same_pair (a, b) (c, d) e = let f : a ≡ c = cc in let g : b ≡ d = cc in λ i. (f i, g i)

different-places : (pairs : List (ℕ × ℕ)) → AllPairs (λ p q. p ≢ q) pairs → AllPairs (λ p q. p ≢ q) (map place_of_pair pairs)
different-places pairs h i j d less within =
    let size = length-map pairs place_of_pair in
    let inside : j < length pairs = omega (arith, size, within) in
    let below : i < length pairs = omega arith in
    let at =
    λ (k : ℕ) (l : k < length pairs). get_or_from_slice_get (map place_of_pair pairs) k (place_of_pair (get_or pairs k (0, 0))) d
    (get_pair pairs k (get_or pairs k (0, 0)) (slice_get-get_or pairs k (0, 0) l)) in
    λ e. h i j (0, 0) less inside (same_pair _ _ (sym (at i below) ∙ e ∙ at j inside))

pub first_of_two : (p q r s : ℕ) → p ∷ q ∷ [] ≡ r ∷ s ∷ [] → p ≡ r
first_of_two p q r s e = cc

pub second_of_two : (p q r s : ℕ) → p ∷ q ∷ [] ≡ r ∷ s ∷ [] → q ≡ s
second_of_two p q r s e = cc

module _ (tracks : List Var) (a b : Automaton) (connective : Connective) where
  fold-pair : (letters : List ℕ) (p q : ℕ)
      → fold (walker_over tracks a b connective).next (p ∷ q ∷ []) letters ≡ run a p (map (restrict tracks a.tracks) letters) ∷ run b q (map (restrict tracks b.tracks) letters) ∷ []
  fold-pair [] p q = refl
  fold-pair (letter ∷ letters) p q = fold-pair letters (next_state a p (restrict tracks a.tracks letter)) (next_state b q (restrict tracks b.tracks letter))

  -- a word leads to the pair of the states to which it leads on either side
  pub place_of-pair : (word : List ℕ) → word ≢ []
      → place_of (walker_over tracks a b connective) word ≡ state_of a (part_of tracks a.tracks word) ∷ state_of b (part_of tracks b.tracks word) ∷ []
  place_of-pair [] nonempty = absurd (nonempty refl)
  place_of-pair (sign ∷ letters) nonempty = fold-pair letters _ _

-- the states of a numbered pair
pub states_at : (g : Absorbing) (tracks : List Var) (a b : Automaton) (connective : Connective) (pairs : List (ℕ × ℕ)) (number left right : ℕ) → IsAutomaton a → IsAutomaton b
    → AreSinks a b connective g → slice_get pairs number ≡ Some (left, right) → AreNumbered (absorbing_walker g tracks a b connective) (map place_of_pair pairs)
    → (left < length a.accept) × (right < length b.accept)
states_at g tracks a b connective pairs number left right a_valid b_valid deciding_states at numbered =
    let r = All-at (IsReached (absorbing_walker g tracks a b connective)) (map place_of_pair pairs) number (left ∷ right ∷ []) (get_pair pairs number (left, right) at) numbered.reached in
    let pair = place-pair_of g tracks a b connective a_valid b_valid deciding_states r.word r.is_word.nonempty in
    let e = sym pair.is ∙ r.leads in
    (subst (λ n. n < length a.accept) (first_of_two _ _ _ _ e) pair.left_known, subst (λ n. n < length b.accept) (second_of_two _ _ _ _ e) pair.right_known)

-- the row of the pairs of two rows
pub IsRow-paired : {g : Absorbing} (w : Walker) (shapes : List Shape) (old_pairs : List (ℕ × ℕ)) {pairs : List (ℕ × ℕ)} (lead : ℕ → List ℕ) (node : ℕ) {left right left_value right_value : ℕ → ℕ}
    → Reads (length w.tracks) left left_value → Reads (length w.tracks) right right_value
    → ((letter : ℕ) → lead letter ≡ place_of_pair (absorbed g (left_value letter) (right_value letter))) → node < length shapes
    → ((letter : ℕ) → slice_get pairs (map_at shapes node letter) ≡ Some (absorbed g (left letter) (right letter)))
    → ArePairs g (length old_pairs) pairs left right → AllPairs (λ p q. p ≢ q) pairs
    → IsRow w shapes (map place_of_pair old_pairs) (map place_of_pair pairs) lead node
IsRow-paired {g} w shapes old_pairs {pairs} lead node {left} {right} {left_value} {right_value} l r leads_to known maps answers different =
    let apart = different-places pairs different in
    let at = λ (letter : ℕ). get_pair pairs (map_at shapes node letter) (absorbed g (left letter) (right letter)) (maps letter) in
    let value = λ (letter : ℕ) (below : letter < 2 ^ length w.tracks).
    let both : place_of_pair (absorbed g (left letter) (right letter)) ≡ place_of_pair (absorbed g (left_value letter) (right_value letter)) =
    λ i. place_of_pair (absorbed g (l.reads letter below i) (r.reads letter below i)) in
    both ∙ sym (leads_to letter) in
    record {
      known = known;
      narrow = record {
        same = λ x y agree.
            let both : place_of_pair (absorbed g (left x) (right x)) ≡ place_of_pair (absorbed g (left y) (right y)) =
            λ i. place_of_pair (absorbed g (l.narrow x y agree i) (r.narrow x y agree i)) in
            one_place (map place_of_pair pairs) apart _ _ _ (at x) (at y ∙ ap Some (sym both));
      };
      leads = λ letter below. at letter ∙ ap Some (value letter below);
      different = apart;
      led = λ number past within.
          let old_size = length-map old_pairs place_of_pair in
          let size = length-map pairs place_of_pair in
          let answer = answers.answer number (omega (arith, old_size, past)) (omega (arith, size, within)) in
          let low = answer.0 % 2 ^ length w.tracks in
          let below : low < 2 ^ length w.tracks = mod_below answer.0 (2 ^ length w.tracks) (pow_pos (length w.tracks)) in
          let agree = λ (k : ℕ) (inside : k < length w.tracks). low_bits answer.0 (length w.tracks) k inside in
          let left_low = l.narrow answer.0 low agree in
          let right_low = r.narrow answer.0 low agree in
          let both : place_of_pair (absorbed g (left answer.0) (right answer.0)) ≡ place_of_pair (absorbed g (left low) (right low)) =
          λ i. place_of_pair (absorbed g (left_low i) (right_low i)) in
          record {
            letter = low;
            below = below;
            leads = get_pair pairs number (absorbed g (left answer.0) (right answer.0)) answer.1 ∙ ap Some (both ∙ value low below);
          };
    }

-- what a product of two automata accepts
both_true : (p q : Bool) → IsTrue (p && q) ↔ (IsTrue p × IsTrue q)
both_true true q = (λ h. (refl, h), λ h. h.1)
both_true false q = (λ h. absurd (true≢false (sym h)), λ h. absurd (true≢false (sym h.0)))

one_true : (p q : Bool) → IsTrue (p || q) ↔ (IsTrue p ⊎ IsTrue q)
one_true true q = (λ h. inl refl, λ h. refl)
one_true false q = (λ h. inr h, λ h. elim h [ inl wrong ↦ absurd (true≢false (sym wrong)) | inr right ↦ right ])

but_true : (p q : Bool) → IsTrue (p && not q) ↔ (IsTrue p × (IsTrue q → ⊥))
but_true true true = (λ h. absurd (true≢false (sym h)), λ h. absurd (h.1 refl))
but_true true false = (λ h. (refl, λ e. true≢false (sym e)), λ h. refl)
but_true false q = (λ h. absurd (true≢false (sym h)), λ h. absurd (true≢false (sym h.0)))

-- an automaton that accepts the words that lead to accepting pairs accepts those of the product
module _ (g : Absorbing) (a b m : Automaton) (connective : Connective) (deciding_states : AreSinks a b connective g) (tracks : m.tracks ≡ with_vars a.tracks b.tracks)
    (words : (word : List ℕ) → IsWord (length (with_vars a.tracks b.tracks)) word
    → Accepts m word ↔ IsTrue ((absorbing_walker g (with_vars a.tracks b.tracks) a b connective).final (place_of (absorbing_walker g (with_vars a.tracks b.tracks) a b connective) word))) where
  accepts-combined : {word : List ℕ} → IsWord (length m.tracks) word
      → Accepts m word ↔ IsTrue (combined connective (is_final a (state_of a (part_of m.tracks a.tracks word))) (is_final b (state_of b (part_of m.tracks b.tracks word))))
  accepts-combined {word} is =
      let is_all = subst (λ t. IsWord (length t) word) tracks is in
      let flag : (absorbing_walker g (with_vars a.tracks b.tracks) a b connective).final (place_of (absorbing_walker g (with_vars a.tracks b.tracks) a b connective) word)
      ≡ combined connective (is_final a (state_of a (part_of (with_vars a.tracks b.tracks) a.tracks word))) (is_final b (state_of b (part_of (with_vars a.tracks b.tracks) b.tracks word))) =
      same-flag g (with_vars a.tracks b.tracks) a b connective deciding_states word is.nonempty
      ∙ ap (both_walker a b connective).final (place_of-pair (with_vars a.tracks b.tracks) a b connective word is.nonempty) in
      let accepts = words word is_all in
      subst (λ t. Accepts m word ↔ IsTrue (combined connective (is_final a (state_of a (part_of t a.tracks word))) (is_final b (state_of b (part_of t b.tracks word))))) (sym tracks)
      (λ h. sym flag ∙ accepts.0 h, λ h. accepts.1 (flag ∙ h))

pub IsProduct-words : (g : Absorbing) (a b m : Automaton) (connective : Connective) → AreSinks a b connective g → m.tracks ≡ with_vars a.tracks b.tracks
    → ((word : List ℕ) → IsWord (length (with_vars a.tracks b.tracks)) word
    → Accepts m word ↔ IsTrue ((absorbing_walker g (with_vars a.tracks b.tracks) a b connective).final (place_of (absorbing_walker g (with_vars a.tracks b.tracks) a b connective) word)))
    → AllReached m → IsProduct a b connective m
IsProduct-words g a b m connective deciding_states tracks words reached = record { tracks = tracks; words = accepts connective deciding_states words; reached = reached }
  where
    accepts : (connective : Connective) → AreSinks a b connective g
        → ((word : List ℕ) → IsWord (length (with_vars a.tracks b.tracks)) word
        → Accepts m word ↔ IsTrue ((absorbing_walker g (with_vars a.tracks b.tracks) a b connective).final (place_of (absorbing_walker g (with_vars a.tracks b.tracks) a b connective) word)))
        → AcceptsBy connective a b m
    accepts And deciding_states words = λ word is. let one = accepts-combined g a b m And deciding_states tracks words is in let two = both_true _ _ in (λ h. two.0 (one.0 h), λ h. one.1 (two.1 h))
    accepts Or deciding_states words = λ word is. let one = accepts-combined g a b m Or deciding_states tracks words is in let two = one_true _ _ in (λ h. two.0 (one.0 h), λ h. one.1 (two.1 h))
    accepts AndNot deciding_states words = λ word is. let one = accepts-combined g a b m AndNot deciding_states tracks words is in let two = but_true _ _ in (λ h. two.0 (one.0 h), λ h. one.1 (two.1 h))

-- the automaton of a walk over pairs is that of the product
pub IsProduct-explored : (g : Absorbing) (a b m : Automaton) (connective : Connective) → AreSinks a b connective g
    → IsWalked (absorbing_walker g (with_vars a.tracks b.tracks) a b connective) m → IsProduct a b connective m
IsProduct-explored g a b m connective deciding_states explored = IsProduct-words g a b m connective deciding_states explored.tracks explored.words explored.reached

-- the states of a numbered pair, however the pairs are listed
pub states_in : {g : Absorbing} (tracks : List Var) {a b : Automaton} {connective : Connective} (pairs listed : List (ℕ × ℕ)) (number : ℕ) → IsAutomaton a → IsAutomaton b
    → AreSinks a b connective g → listed ≡ pairs → number < length (map place_of_pair pairs) → AreNumbered (absorbing_walker g tracks a b connective) (map place_of_pair pairs)
    → ((get_or listed number (0, 0)).0 < length a.accept) × ((get_or listed number (0, 0)).1 < length b.accept)
states_in {g} tracks {a} {b} {connective} pairs listed number a_valid b_valid deciding_states same known numbered =
    let within : number < length pairs = let l = length-map pairs place_of_pair in omega (arith, l, known) in
    let at = slice_get-get_or pairs number (0, 0) within in
    let found = states_at g tracks a b connective pairs number (get_or pairs number (0, 0)).0 (get_or pairs number (0, 0)).1 a_valid b_valid deciding_states at numbered in (
      subst (λ (l : List (ℕ × ℕ)). (get_or {A = ℕ × ℕ} l number (0, 0)).0 < length a.accept) (sym same) found.0,
      subst (λ (l : List (ℕ × ℕ)). (get_or {A = ℕ × ℕ} l number (0, 0)).1 < length b.accept) (sym same) found.1,
    )

pub place_in : (pairs listed : List (ℕ × ℕ)) (number : ℕ) → listed ≡ pairs → number < length (map place_of_pair pairs)
    → slice_get (map place_of_pair pairs) number ≡ Some (place_of_pair (get_or listed number (0, 0)))
place_in pairs listed number same known =
    let within : number < length pairs = let l = length-map pairs place_of_pair in omega (arith, l, known) in
    get_pair pairs number (get_or pairs number (0, 0)) (slice_get-get_or pairs number (0, 0) within) ∙ ap (λ (l : List (ℕ × ℕ)). Some (place_of_pair (get_or l number (0, 0)))) (sym same)

pub walker-same : (g h : Absorbing) (tracks : List Var) (a b c d : Automaton) (j k : Connective) → g ≡ h → a ≡ c → b ≡ d → j ≡ k → tracks ≡ with_vars c.tracks d.tracks
    → absorbing_walker g tracks a b j ≡ absorbing_walker h (with_vars c.tracks d.tracks) c d k
walker-same g h tracks a b c d j k o e f p t = λ i. absorbing_walker (o i) (t i) (e i) (f i) (p i)
