-- CanonicalRows that lead to canonical states, and the states that they lead to.
use Rattle.std.proofs.Common.{◌≡◌, ◌≢◌, ℕ, ◌<◌, ◌≤◌, ◌+◌, ◌%◌, ◌^◌, List, [], ◌∷◌, ◌++◌, length, get_or, Contains, AllPairs, All, arith, refl, sym, ap, ◌∙◌, subst, inl, inr}
use Rattle.std.specs.Int.{bit_at}
use Rattle.std.proofs.lemmas.Bool.{cases_lt}
use Rattle.std.proofs.lemmas.Nat.{mod_below, pow_pos}
use Rattle.std.proofs.lemmas.List.Elements.{All-nil, All-cons, All-append, All-get_or, All-from_get_or}
use Rattle.track_word.specs.Word.{IsWord}
use Rattle.letter_diagram.specs.Diagram.{LooksBelow}
use Rattle.auto_core.specs.Automaton.{Automaton, width, first_state, next_state, state_of}
use Rattle.auto_core.specs.Rows.{IsOverNodes}
use Rattle.auto_core.proofs.RowLemmas.{low_bits}
use Rattle.auto_core.proofs.NodeMaps.{first-map}
use Rattle.auto_reduce.specs.Quotient.{IsCanonical, IsMet, IsOrderTo}
use Rattle.auto_refine.specs.Leading.{entry_at}
use Rattle.auto_reduce.specs.Unmet.{AddsRow}
use Rattle.auto_refine.proofs.Counting.{length_le-below}
use Rattle.auto_core.proofs.States.{state_of-append, state_within}
use Rattle.auto_reduce.proofs.Orders.{Contains-on}
use Rattle.auto_predecessors.proofs.RowNodes.{AreRowNodes-own}

pub IsWord-one : (tracks letter : ℕ) → letter < 2 ^ tracks → IsWord tracks (letter ∷ [])
IsWord-one tracks letter below = record { nonempty = λ e. cc e; letters = All-cons (λ l. l < 2 ^ tracks) letter [] below (All-nil (λ l. l < 2 ^ tracks)) }

pub IsWord-append : {tracks : ℕ} {word : List ℕ} (letters : List ℕ) → IsWord tracks word → All (λ l. l < 2 ^ tracks) letters → IsWord tracks (word ++ letters)
IsWord-append {tracks} {word} letters w all = record {
  nonempty = longer word w.nonempty;
  letters = All-append (λ l. l < 2 ^ tracks) word letters w.letters all;
}
  where
    longer : (xs : List ℕ) → xs ≢ [] → xs ++ letters ≢ []
    longer [] some e = some refl
    longer (x ∷ xs) some e = cc

module _ {a : Automaton} {canon : List ℕ} (c : IsCanonical a canon) where
  pub canon_within : (state : ℕ) → state < length a.accept → get_or canon state 0 < length a.accept
  canon_within state within = All-get_or (λ s. s < length a.accept) canon state 0 (omega (arith, within, c.size)) c.within

  pub met_within : {state : ℕ} → IsMet a canon state → state < length a.accept
  met_within m = subst (λ s. s < length a.accept) m.leads (canon_within (state_of a m.word) (state_within c.valid m.word))

  -- from a state that is met the canonical states of the next ones are met
  pub met_next : {state : ℕ} (letter : ℕ) → IsMet a canon state → letter < width a → IsMet a canon (get_or canon (next_state a state letter) 0)
  met_next letter m below = record {
    word = m.word ++ letter ∷ [];
    is_word = IsWord-append (letter ∷ []) m.is_word (All-cons (λ l. l < width a) letter [] below (All-nil (λ l. l < width a)));
    leads = ap (λ s. get_or canon s 0) (state_of-append a m.word (letter ∷ []) m.is_word.nonempty)
        ∙ sym (c.steps (state_of a m.word) letter (state_within c.valid m.word) below)
        ∙ ap (λ s. get_or canon (next_state a s letter) 0) m.leads;
  }

  pub met_first : (letter : ℕ) → letter < width a → IsMet a canon (get_or canon (first_state a letter) 0)
  met_first letter below = record { word = letter ∷ []; is_word = IsWord-one _ letter below; leads = refl }

  pub order_within : {order : List ℕ} {rows : ℕ} → IsOrderTo a canon order rows → All (λ s. s < length a.accept) order
  order_within {order} o = All-from_get_or (λ s. s < length a.accept) order 0 (λ k h. met_within (All-get_or (IsMet a canon) order k 0 h o.met))

  pub order_known : {order : List ℕ} {rows : ℕ} (place : ℕ) → IsOrderTo a canon order rows → place < length order → get_or order place 0 < length a.accept
  order_known {order} place o within = All-get_or (λ s. s < length a.accept) order place 0 within (order_within o)

  pub order_few : {order : List ℕ} {rows : ℕ} → IsOrderTo a canon order rows → length order ≤ length a.accept
  order_few {order} o = length_le-below order (length a.accept) o.different (order_within o)

  pub order_some : {order : List ℕ} {rows : ℕ} → IsOrderTo a canon order rows → 0 < length order
  order_some o = let there = o.first 0 (pow_pos (length a.tracks)) in let w = there.1 in omega (arith, w)

-- the values of a row are the canonical states of the states to which letters lead
pub record LeadsTo (a : Automaton) (canon : List ℕ) (row state : ℕ → ℕ) : Type 0 where
  pub narrow : (x y : ℕ) → ((k : ℕ) → k < length a.tracks → bit_at x k ≡ bit_at y k) → row x ≡ row y
  pub leads : (letter : ℕ) → letter < width a → row letter ≡ get_or canon (state letter) 0

module _ (a : Automaton) (canon : List ℕ) (row state : ℕ → ℕ) (l : LeadsTo a canon row state) where
  low_below : (letter : ℕ) → letter % width a < width a
  low_below letter = mod_below letter (width a) (pow_pos (length a.tracks))

  pub leads_low : (letter : ℕ) → row letter ≡ get_or canon (state (letter % width a)) 0
  leads_low letter = l.narrow letter (letter % width a) (λ k below. low_bits letter (length a.tracks) k below) ∙ l.leads (letter % width a) (low_below letter)

  -- what a value is
  value_met : (g v : ℕ) → row g ≡ v → ((letter : ℕ) → letter < width a → IsMet a canon (get_or canon (state letter) 0)) → IsMet a canon v
  value_met g v is met = subst (IsMet a canon) (sym (leads_low g) ∙ is) (met (g % width a) (low_below g))

  value_there : {old new : List ℕ} → AddsRow row old new → (letter : ℕ) → letter < width a → Contains new (get_or canon (state letter) 0)
  value_there {new} adds letter below = subst (Contains new) (l.leads letter below) (adds.has letter)

-- the rows of an automaton over nodes, read as canonical states
module _ (a : Automaton) (canon : List ℕ) (over : IsOverNodes a) where
  pub leads-first : LeadsTo a canon (entry_at canon a.shapes a.first_node) (first_state a)
  leads-first = record {
    narrow = λ x y agree. ap (λ v. get_or canon v 0) (over.nodes.first_narrow.same x y agree);
    leads = λ letter below. ap (λ v. get_or canon v 0) (first-map a over letter below);
  }

  pub leads-row : (state : ℕ) → state < length a.accept → LeadsTo a canon (entry_at canon a.shapes (get_or a.row_nodes state 0)) (next_state a state)
  leads-row state within =
      let rows = AreRowNodes-own over in
      let narrow = All-get_or (λ node. LooksBelow a.shapes node (length a.tracks)) a.row_nodes state 0 (let s = rows.size in omega (arith, s, within)) rows.narrow in
      record {
        narrow = λ x y agree. ap (λ v. get_or canon v 0) (narrow.same x y agree);
        leads = λ letter below. ap (λ v. get_or canon v 0) (rows.leads state letter within below);
      }

module _ {a : Automaton} {canon : List ℕ} (c : IsCanonical a canon) where
  pub order-first : {row : ℕ → ℕ} → LeadsTo a canon row (first_state a) → {order : List ℕ} → AddsRow row [] order → AllPairs (λ j k. j ≢ k) order → IsOrderTo a canon order 0
  order-first {row} l {order} adds apart = record {
    met = All-from_get_or (IsMet a canon) order 0 (λ k h. let g = adds.added k (omega arith) h in value_met a canon row (first_state a) l g.0 _ g.1 (met_first c));
    different = apart;
    first = λ letter below. value_there a canon row (first_state a) l adds letter below;
    next = λ place letter none below. absurd (omega (arith, none));
  }

  pub order-next : {row : ℕ → ℕ} {old new : List ℕ} {place : ℕ} (state : ℕ) → LeadsTo a canon row (next_state a state)
      → IsOrderTo a canon old place → place < length old → get_or old place 0 ≡ state
      → AddsRow row old new → AllPairs (λ j k. j ≢ k) new → IsOrderTo a canon new (place + 1)
  order-next {row} {old} {new} {place} state l o here is adds apart =
      let met_state : IsMet a canon state = subst (IsMet a canon) is (All-get_or (IsMet a canon) old place 0 here o.met) in
      record {
        met = All-from_get_or (IsMet a canon) new 0 (λ k h. elim (cases_lt k (length old)) [
          | inl before ↦ subst (IsMet a canon) (sym (adds.kept k before)) (All-get_or (IsMet a canon) old k 0 before o.met)
          | inr past ↦ let g = adds.added k past h in value_met a canon row (next_state a state) l g.0 _ g.1 (λ letter below. met_next c letter met_state below)
        ]);
        different = apart;
        first = λ letter below. Contains-on old new adds.longer adds.kept _ (o.first letter below);
        next = λ p letter less below. elim (cases_lt p place) [
          | inl before ↦ subst (λ s. Contains new (get_or canon (next_state a s letter) 0)) (sym (adds.kept p (omega arith)))
              (Contains-on old new adds.longer adds.kept _ (o.next p letter before below))
          | inr past ↦
              let same : place ≡ p = omega (arith, less, past) in
              subst (λ s. Contains new (get_or canon (next_state a s letter) 0)) (sym (adds.kept p (omega arith) ∙ ap (λ n. get_or old n 0) (sym same) ∙ is))
              (value_there a canon row (next_state a state) l adds letter below)
        ];
      }
