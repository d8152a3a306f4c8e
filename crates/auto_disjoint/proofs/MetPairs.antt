-- Pairs of nodes, as more are met.
use Rattle.std.proofs.Common.{◌≡◌, ◌⊎◌, ℕ, ◌<◌, ◌≤◌, ◌+◌, None, Bool, true, false, List, [], ◌∷◌, ◌++◌, length, slice_get, get_or, Some, if◌then◌else◌, arith, refl, sym, ap, ◌∙◌, subst, inl, inr}
use Rattle.std.specs.List.{list_any}
use Rattle.std.proofs.lemmas.Bool.{cases_lt}
use Rattle.std.proofs.lemmas.List.{length_push, get_or_push, get_or_append_left}
use Rattle.std.proofs.lemmas.Option.{slice_get-get_or, slice_get_within, get_or_from_slice_get}
use Rattle.indexmap.specs.IndexSet.{insert_key}
use Rattle.letter_diagram.specs.Numbering.{PairsKept}
use Rattle.letter_diagram.proofs.PairNumbers.{pair_eq, pair_eq-true, PairsKept-insert}
use Rattle.auto_disjoint.specs.Met.{IsMetIn, Adds}

only-pushed : (old : List (ℕ × ℕ)) (pair other : ℕ × ℕ) → IsMetIn (old ++ pair ∷ []) other → IsMetIn old other ⊎ (other ≡ pair)
only-pushed old pair other (number, at) = elim (cases_lt number (length old)) [
  | inl within ↦
      inl (
        number,
        slice_get-get_or old number other within
            ∙ ap Some (sym (get_or_append_left old (pair ∷ []) other number within) ∙ get_or_from_slice_get (old ++ pair ∷ []) number other other at),
      )
  | inr past ↦
      let below = slice_get_within (old ++ pair ∷ []) number other at in
      let size = length_push old pair in
      let last : length old ≡ number = omega (arith, below, size, past) in
      inr (sym (get_or_from_slice_get (old ++ pair ∷ []) number other other at) ∙ get_or_push old pair other number last)
]

only-inserted : (old new : List (ℕ × ℕ)) (pair : ℕ × ℕ) → new ≡ insert_key pair_eq old pair → (other : ℕ × ℕ) → IsMetIn new other → IsMetIn old other ⊎ (other ≡ pair)
only-inserted old new pair keys other there = by (list_any (pair_eq pair) old) refl
  where
    by : (b : Bool) → list_any (pair_eq pair) old ≡ b → IsMetIn old other ⊎ (other ≡ pair)
    by true e = inl (subst (λ l. IsMetIn l other) (keys ∙ ap (λ c. if c then old else old ++ pair ∷ []) e) there)
    by false e = only-pushed old pair other (subst (λ l. IsMetIn l other) (keys ∙ ap (λ c. if c then old else old ++ pair ∷ []) e) there)

pub Adds-insert : (old new : List (ℕ × ℕ)) (pair stored : ℕ × ℕ) (number : ℕ) → new ≡ insert_key pair_eq old pair → slice_get new number ≡ Some stored → pair_eq pair stored ≡ true
    → Adds old new pair
Adds-insert old new pair stored number keys at same = record {
  kept = PairsKept-insert old new pair keys;
  there = (number, at ∙ ap Some (sym (pair_eq-true pair stored same)));
  only = only-inserted old new pair keys;
}

pub IsMetIn-kept : {old new : List (ℕ × ℕ)} {pair : ℕ × ℕ} → PairsKept old new → IsMetIn old pair → IsMetIn new pair
IsMetIn-kept {pair} kept (number, at) = (number, kept.at number pair at)

pub none-met : {pair : ℕ × ℕ} → IsMetIn [] pair → ⊥
none-met {pair} (number, at) = let below = slice_get_within [] number pair at in omega (arith, below)

none-some : (pair : ℕ × ℕ) → None ≡ Some pair → ⊥
none-some pair e = cc

-- past the last place all were visited
pub all_visited : (seen : List (ℕ × ℕ)) (visited number : ℕ) (pair : ℕ × ℕ) → slice_get seen visited ≡ None → slice_get seen number ≡ Some pair → number < visited
all_visited seen visited number pair past at = elim (cases_lt number visited) [
  | inl below ↦ below
  | inr later ↦
      let within = slice_get_within seen number pair at in
      absurd (none-some (get_or seen visited pair) (sym past ∙ slice_get-get_or seen visited pair (omega (arith, later, within))))
]

pub places_more : {old new : List (ℕ × ℕ)} (visited : ℕ) {pair : ℕ × ℕ} → PairsKept old new → slice_get old visited ≡ Some pair → visited + 1 ≤ length new
places_more {old} visited {pair} kept at = let within = slice_get_within old visited pair at in let longer = kept.longer in omega (arith, within, longer)
