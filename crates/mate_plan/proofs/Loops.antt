-- A level that is made mask by mask.
use Rattle.std.proofs.Common.{◌≡◌, ℕ, zero, suc, List, [], ◌∷◌, ◌++◌, length, drop, Option, sym, ap, ◌∙◌, subst}
use Rattle.std.specs.Prelude.{Contains}
use Rattle.auto_core.specs.Automaton.{Automaton}
use Rattle.game_rules.specs.Game.{Position}
use Rattle.game_rules.specs.declared.men.Man.{Man}
use Rattle.lin_formula.specs.SetOf.{SetOf}
use Rattle.lin_formula.specs.declared.formula.SetId.{SetId}
use Rattle.rule_formula.specs.Fits.{IsGameMask, masks_of}
use Rattle.rule_formula.specs.Mean.{mask_tracks}
use Rattle.rule_formula.proofs.MasksTheorem.{masks_are}
use Rattle.set_plan.specs.Outcome.{Ends, IsPlanError}
use Rattle.set_plan.specs.Program.{Give}
use Rattle.set_plan.specs.Sets.{Grows, IsNameOn, set_at}
use Rattle.set_plan.specs.declared.stop.PlanError.{PlanError}
use Rattle.set_plan.proofs.Composition.{Ends-bind, Ends-give, Error-bind}
use Rattle.set_plan.proofs.Takings.{contains_head, contains_rest}
use Rattle.mate_plan.specs.Levels.{AreNames, AreNamesIn, AreNamesSoFar, HaveNames, level_in}
use Rattle.mate_plan.specs.Plan.{Level, Program, level_with, no_sets, with_mask}
use Rattle.mate_plan.specs.declared.names.PartName.{PartName}
use Rattle.mate_plan.proofs.LevelLemmas.{from_none, have-grows, have_level-grows, have_push, level_push}

abbrev Names : Type 0
Names = List (Option SetId)

-- what is left after one more name
left_more : (masks : List ℕ) (names : Names) (mask : ℕ) (rest : List ℕ) (id : Option SetId) → drop (length names) masks ≡ mask ∷ rest → drop (length (names ++ id ∷ [])) masks ≡ rest
left_more [] [] mask rest id e = absurd (cc)
left_more [] (n ∷ names) mask rest id e = absurd (cc)
left_more (m ∷ masks) [] mask rest id e = cc
left_more (m ∷ masks) (n ∷ names) mask rest id e = left_more masks names mask rest id e

-- where no mask is left, each has a name
all_named : (stock : List Man) (sets : List Automaton) (masks : List ℕ) (names : Names) → HaveNames stock sets masks names → drop (length names) masks ≡ [] → AreNames stock sets masks names
all_named stock sets [] [] have e = tt
all_named stock sets [] (id ∷ ids) have e = have
all_named stock sets (mask ∷ masks) [] have e = absurd (cc)
all_named stock sets (mask ∷ masks) (id ∷ ids) have e = (have.0, all_named stock sets masks ids have.1 e)

-- what comes next is one of the masks
next_of : (masks : List ℕ) (n mask : ℕ) (rest : List ℕ) → drop n masks ≡ mask ∷ rest → Contains masks mask
next_of [] zero mask rest e = absurd (cc)
next_of [] (suc n) mask rest e = absurd (cc)
next_of (m ∷ masks) zero mask rest e =
    let same : m ≡ mask = cc in
    subst (λ (k : ℕ). Contains (m ∷ masks) k) same (contains_head m masks)
next_of (m ∷ masks) (suc n) mask rest e = contains_rest m masks mask (next_of masks n mask rest e)

module _ (p : Position) where
  pub mask_here : {sets : List Automaton} {names : Names} (mask : ℕ) (rest : List ℕ) → AreNamesSoFar p sets names (mask ∷ rest) → IsGameMask p mask
  mask_here {names} mask rest so_far = (masks_are p mask).0 (next_of (masks_of p) (length names) mask rest so_far.left)

  pub so_far_none : (sets : List Automaton) (masks : List ℕ) → masks ≡ masks_of p → AreNamesSoFar p sets [] masks
  so_far_none sets masks are = record { have = tt; left = sym are }

  pub so_far_names : {sets : List Automaton} {names : Names} → AreNamesSoFar p sets names [] → AreNamesIn p sets names
  so_far_names {sets} {names} so_far = all_named p.men sets (masks_of p) names so_far.have so_far.left

  pub level_none : (sets : List Automaton) → level_in p sets [] ≡ no_sets
  level_none sets = from_none sets no_sets (masks_of p)

  module _ (old new : List Automaton) (names : Names) (mask : ℕ) (rest : List ℕ) (so_far : AreNamesSoFar p old names (mask ∷ rest)) (grows : Grows old new) (id : Option SetId) where
    -- one more name
    pub so_far_more : IsNameOn (mask_tracks p mask) new id → AreNamesSoFar p new (names ++ id ∷ []) rest
    so_far_more on = record {
      have = have_push p.men new (masks_of p) names mask rest id so_far.left (have-grows p.men old new (masks_of p) names grows so_far.have) on;
      left = left_more (masks_of p) names mask rest id so_far.left;
    }

    more : level_in p new (names ++ id ∷ []) ≡ level_with (level_in p old names) mask (set_at new id)
    more =
        level_push new (masks_of p) names mask rest id so_far.left
        ∙ ap (λ (l : Level). level_with l mask (set_at new id)) (have_level-grows p.men old new (masks_of p) names grows so_far.have)

    -- one more set
    pub with_mask_ends : (f : ℕ → Program SetOf) (budget : ℕ)
        → Ends (f mask) budget (set_at new id)
        → Ends (with_mask f mask (level_in p old names)) budget (level_in p new (names ++ id ∷ []))
    with_mask_ends f budget ends =
        let level = level_with (level_in p old names) mask (set_at new id) in
        subst (λ (l : Level). Ends (with_mask f mask (level_in p old names)) budget l) (sym more)
        (Ends-bind (f mask) (λ s. Give (level_with (level_in p old names) mask s)) budget (set_at new id) level ends (Ends-give budget level))

-- an error at a set is one of the level
pub with_mask_error : (f : ℕ → Program SetOf) (mask budget : ℕ) (level : Level) (e : PlanError PartName) → IsPlanError (f mask) budget e → IsPlanError (with_mask f mask level) budget e
with_mask_error f mask budget level e error = Error-bind (f mask) (λ s. Give (level_with level mask s)) budget e error
