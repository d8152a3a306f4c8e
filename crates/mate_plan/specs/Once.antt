-- A plan has one end, or one first step that exceeds a budget.
use Rattle.std.specs.Prelude.{◌≡◌, ℕ, List, [], ◌∷◌}
use Rattle.game_rules.specs.Game.{Position}
use Rattle.game_rules.specs.declared.men.Side.{Side}
use Rattle.set_plan.specs.Outcome.{Ends, Stops}
use Rattle.set_plan.specs.Same.{SameSets}
use Rattle.set_plan.specs.declared.stop.PartStep.{PartStep}
use Rattle.mate_plan.specs.Plan.{Level}
use Rattle.mate_plan.specs.PlanOf.{plan_of}
use Rattle.mate_plan.specs.declared.names.PartName.{PartName}

-- the sets of each mask have the same tuples
abbrev pub SameLevels : Level → Level → Type 0
SameLevels l m = (mask : ℕ) → SameSets (l mask) (m mask)

-- the levels of each ply have the same tuples
abbrev pub SameLists : List Level → List Level → Type 0
SameLists [] [] = Unit {0}
SameLists [] (m ∷ ms) = ⊥
SameLists (l ∷ ls) [] = ⊥
SameLists (l ∷ ls) (m ∷ ms) = SameLevels l m × SameLists ls ms

-- within the budget the plan has one end or stops at one step
pub record EndsOnce (winner : Side) (p : Position) (moves budget : ℕ) : Type 0 where
  pub one_end : (a b : List Level) → Ends (plan_of winner p moves) budget a → Ends (plan_of winner p moves) budget b
      → SameLists a b
  pub one_step : (x y : PartStep PartName) → Stops (plan_of winner p moves) budget x
      → Stops (plan_of winner p moves) budget y → x ≡ y
  pub not_both : (a : List Level) (x : PartStep PartName) → Ends (plan_of winner p moves) budget a
      → Stops (plan_of winner p moves) budget x → ⊥

-- this is true of each position and number of moves
abbrev pub PlanEndsOnce : Type 0
PlanEndsOnce = (winner : Side) (p : Position) (moves budget : ℕ) → EndsOnce winner p moves budget
