-- The plan of a table has one end, or one first step that exceeds a budget.
use Rattle.std.specs.Prelude.{◌≡◌, ℕ, List, [], ◌∷◌}
use Rattle.game_rules.specs.Game.{Position}
use Rattle.game_rules.specs.declared.men.Side.{Side}
use Rattle.set_plan.specs.Outcome.{Ends, Stops}
use Rattle.set_plan.specs.declared.stop.PartStep.{PartStep}
use Rattle.mate_plan.specs.Once.{SameLevels}
use Rattle.mate_plan.specs.declared.names.PartName.{PartName}
use Rattle.table_plan.specs.Table.{Row, table}

-- the levels of both rows have the same tuples
pub record IsSameRow (r s : Row) : Type 0 where
  pub won : SameLevels r.won s.won
  pub lost : SameLevels r.lost s.lost

-- row by row
abbrev pub SameRows : List Row → List Row → Type 0
SameRows [] [] = Unit {0}
SameRows [] (s ∷ ss) = ⊥
SameRows (r ∷ rs) [] = ⊥
SameRows (r ∷ rs) (s ∷ ss) = IsSameRow r s × SameRows rs ss

-- within the budget the plan has one end or stops at one step
pub record TableEndsOnce (winner : Side) (p : Position) (last budget : ℕ) : Type 0 where
  pub one_end : (a b : List Row) → Ends (table winner p last) budget a → Ends (table winner p last) budget b → SameRows a b
  pub one_step : (x y : PartStep PartName) → Stops (table winner p last) budget x → Stops (table winner p last) budget y
      → x ≡ y
  pub not_both : (a : List Row) (x : PartStep PartName) → Ends (table winner p last) budget a
      → Stops (table winner p last) budget x → ⊥

-- this is true of each table
abbrev pub TablesEndOnce : Type 0
TablesEndOnce = (winner : Side) (p : Position) (last budget : ℕ) → TableEndsOnce winner p last budget
