-- The state of a solver for its finished plies.
use Rattle.std.specs.Prelude.{◌≡◌, ℕ, suc, ◌<◌, ◌≤◌, List, length, map, reverse, take, All, Option}
use Rattle.auto_core.specs.Automaton.{Automaton}
use Rattle.game_rules.specs.Game.{Position, Sound}
use Rattle.lin_formula.specs.declared.formula.SetId.{SetId}
use Rattle.rule_formula.specs.Fits.{masks_of}
use Rattle.mask_sets.specs.Stock.{mask_of}
use Rattle.set_plan.specs.Outcome.{Ends}
use Rattle.mate_plan.specs.Levels.{AreNames, level_of}
use Rattle.mate_plan.specs.Plan.{forward}
use Rattle.mate_plan.specs.PlanOf.{rules_of}
use Rattle.winning_sets.specs.Lent.{AreEmpties}

-- The table has, for a sound position, the names of the sets reached at each ply, the first ply first and in the order
-- of the masks, and an empty set for each mask without a name. Up to each ply they are those with which the plan's way
-- forward ends within the budget.
pub record AreFinished (p : Position) (budget : ℕ) (masks : List ℕ) (empties table : List Automaton)
    (levels : List (List (Option SetId))) : Type 0 where
  pub sound : Sound p
  pub few : length p.men ≤ 8
  pub short : length levels ≤ 42
  pub names : All (AreNames p.men table (masks_of p)) levels
  pub masks_are : 0 < length levels → masks ≡ masks_of p
  pub empties_are : 0 < length levels → AreEmpties p.men (masks_of p) empties
  pub ends : (ply : ℕ) → ply < length levels
      → Ends (forward (rules_of p) p.turn (mask_of p) ply) budget
      (reverse (map (level_of table (masks_of p)) (take (suc ply) levels)))
