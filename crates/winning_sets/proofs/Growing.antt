-- Names keep their sets where a table grows.
use Rattle.std.proofs.Common.{◌≡◌, ℕ, zero, suc, ◌≤◌, List, [], ◌∷◌, length, get_or, take, map, Option, Some, None, refl, sym, ap, ◌∙◌, arith}
use Rattle.std.specs.List.{All}
use Rattle.std.proofs.lemmas.List.Elements.{All-head, All-tail, All-weaker}
use Rattle.std.proofs.lemmas.Option.{get_or_from_slice_get}
use Rattle.track_word.specs.declared.tracks.Var.{Var}
use Rattle.auto_core.specs.Automaton.{Automaton}
use Rattle.game_rules.specs.declared.men.Man.{Man}
use Rattle.lin_formula.specs.SetOf.{as_set}
use Rattle.lin_formula.specs.declared.formula.SetId.{SetId}
use Rattle.set_plan.specs.Sets.{Grows, IsNameOn, set_at}
use Rattle.set_plan.proofs.Composition.{none_some}
use Rattle.mate_plan.specs.Levels.{AreNames, level_from, level_of}
use Rattle.mate_plan.specs.Plan.{Level, level_with, no_sets}
pub use Rattle.mate_plan.proofs.LevelLemmas.{grows-grows as grows-trans}
use Rattle.winning_sets.specs.Lent.{set_or, sets_or}
use Rattle.set_plan.proofs.Takings.{same_some}
use Rattle.winning_sets.proofs.LentLemmas.{Names}

-- the first sets of a table
pub grows-take : (n : ℕ) (table : List Automaton) → Grows (take n table) table
grows-take zero table k a e = none_some (sym e)
grows-take (suc n) [] k a e = e
grows-take (suc n) (b ∷ table) zero a e = e
grows-take (suc n) (b ∷ table) (suc k) a e = grows-take n table k a e

-- a table that has grown begins with what it was
pub take-grows : (old new : List Automaton) (n : ℕ) → Grows old new → n ≤ length old → take n new ≡ take n old
take-grows old new zero grows within = refl
take-grows [] new (suc n) grows within = absurd (omega (arith, within))
take-grows (a ∷ old) [] (suc n) grows within = none_some (sym (grows 0 a refl))
take-grows (a ∷ old) (b ∷ new) (suc n) grows within =
    let same : b ≡ a = same_some (grows 0 a refl) in
    let rest = take-grows old new n (λ k c e. grows (suc k) c e) (omega (arith, within)) in
    ap (λ (x : Automaton). x ∷ take n new) same ∙ ap (λ (l : List Automaton). a ∷ l) rest

module _ (old new : List Automaton) (grows : Grows old new) where
  name-grows : (tracks : List Var) (id : Option SetId) → IsNameOn tracks old id → IsNameOn tracks new id
  name-grows tracks None is = is
  name-grows tracks (Some id) (a, found, on) = (a, grows id.0 a found, on)

  set-grows : (tracks : List Var) (id : Option SetId) → IsNameOn tracks old id → set_at new id ≡ set_at old id
  set-grows tracks None is = refl
  set-grows tracks (Some id) (a, found, on) = ap as_set (grows id.0 a found ∙ sym found)

  pub names-grow : (stock : List Man) (masks : List ℕ) (ids : Names) → AreNames stock old masks ids → AreNames stock new masks ids
  names-grow stock [] [] names = names
  names-grow stock [] (id ∷ ids) names = absurd names
  names-grow stock (mask ∷ masks) [] names = absurd names
  names-grow stock (mask ∷ masks) (id ∷ ids) (name, names) = (name-grows _ id name, names-grow stock masks ids names)

  level_from-grows : (stock : List Man) (masks : List ℕ) (ids : Names) (level : Level) → AreNames stock old masks ids → level_from new level masks ids ≡ level_from old level masks ids
  level_from-grows stock [] ids level names = refl
  level_from-grows stock (mask ∷ masks) [] level names = refl
  level_from-grows stock (mask ∷ masks) (id ∷ ids) level (name, names) =
      ap (λ s. level_from new (level_with level mask s) masks ids) (set-grows _ id name)
      ∙ level_from-grows stock masks ids (level_with level mask (set_at old id)) names

  pub level-grows : (stock : List Man) (masks : List ℕ) (ids : Names) → AreNames stock old masks ids → level_of new masks ids ≡ level_of old masks ids
  level-grows stock masks ids names = level_from-grows stock masks ids no_sets names

  pub lent-grows : (tracks : List Var) (other : Automaton) (id : Option SetId) → IsNameOn tracks old id → set_or new other id ≡ set_or old other id
  lent-grows tracks other None is = refl
  lent-grows tracks other (Some id) (a, found, on) =
      let in_new : get_or new id.0 other ≡ a = get_or_from_slice_get new id.0 a other (grows id.0 a found) in
      let in_old : get_or old id.0 other ≡ a = get_or_from_slice_get old id.0 a other found in
      in_new ∙ sym in_old

  pub sets_or-grows : (stock : List Man) (masks : List ℕ) (others : List Automaton) (ids : Names) → AreNames stock old masks ids → sets_or new others ids ≡ sets_or old others ids
  sets_or-grows stock masks [] ids names = refl
  sets_or-grows stock masks (other ∷ others) [] names = refl
  sets_or-grows stock [] (other ∷ others) (id ∷ ids) names = absurd names
  sets_or-grows stock (mask ∷ masks) (other ∷ others) (id ∷ ids) (name, names) =
      ap (λ (a : Automaton). a ∷ sets_or new others ids) (lent-grows _ other id name)
      ∙ ap (λ (l : List Automaton). set_or old other id ∷ l) (sets_or-grows stock masks others ids names)

  module _ (stock : List Man) (masks : List ℕ) where
    abbrev Named : Names → Type 0
    Named ids = AreNames stock old masks ids

    pub all_names-grow : (levels : List Names) → All Named levels → All (AreNames stock new masks) levels
    all_names-grow levels all = All-weaker Named (AreNames stock new masks) (names-grow stock masks) levels all

    pub levels-grow : (levels : List Names) → All Named levels → map (level_of new masks) levels ≡ map (level_of old masks) levels
    levels-grow [] all = refl
    levels-grow (ids ∷ levels) all =
        ap (λ (l : Level). l ∷ map (level_of new masks) levels) (level-grows stock masks ids (All-head Named ids levels all))
        ∙ ap (λ (l : List Level). level_of old masks ids ∷ l) (levels-grow levels (All-tail Named ids levels all))

    pub all_lent-grow : (others : List Automaton) (levels : List Names) → All Named levels → map (sets_or new others) levels ≡ map (sets_or old others) levels
    all_lent-grow others [] all = refl
    all_lent-grow others (ids ∷ levels) all =
        ap (λ (l : List Automaton). l ∷ map (sets_or new others) levels) (sets_or-grows stock masks others ids (All-head Named ids levels all))
        ∙ ap (λ (l : List (List Automaton)). sets_or old others ids ∷ l) (all_lent-grow others levels (All-tail Named ids levels all))
