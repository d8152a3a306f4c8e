-- Levels that stand for sets of positions, as automata that do.
use Rattle.std.proofs.Common.{◌≡◌, ℕ, zero, suc, ◌<◌, List, [], ◌∷◌, length, Some, refl, arith}
use Rattle.std.specs.Prelude.{slice_get}
use Rattle.auto_core.specs.Automaton.{Automaton}
use Rattle.game_rules.specs.Game.{Position}
use Rattle.lin_formula.specs.SetOf.{Table}
use Rattle.set_plan.specs.Same.{SameSets}
use Rattle.mate_plan.specs.Plan.{Level}
use Rattle.winning_sets.specs.PlanMeans.{IsLevelOf}
use Rattle.winning_sets.specs.Solve.{HasTuplesOf}

there : (levels : List Level) (k : ℕ) → k < length levels → (level : Level) × (slice_get levels k ≡ Some level)
there [] k within = absurd (omega (arith, within))
there (level ∷ levels) zero within = (level, refl)
there (level ∷ levels) (suc k) within = there levels k (omega (arith, within))

-- an automaton with the tuples of the level at a mask
pub same_has : {Set : Position → Type 0} {level : Level} (mask : ℕ) (a : Automaton) → IsLevelOf Set level → SameSets (level mask) (Table a) → HasTuplesOf Set mask a
same_has {Set = Set} mask a is same =
    record { same = λ tuple. (λ h. (is.same mask tuple).0 ((same tuple).1 h), λ h. (same tuple).0 ((is.same mask tuple).1 h)) }
