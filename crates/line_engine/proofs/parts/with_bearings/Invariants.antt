use Rattle.std.proofs.Common.{◌≡◌, ◌≤◌, ◌+◌, ◌*◌, ◌∷◌, [], length}
use Rattle.auto_core.specs.Automaton.{Automaton}
use Rattle.lin_formula.specs.SetOf.{Nothing, Table}
use Rattle.set_plan.specs.Unite.{with_item}
use Rattle.set_plan.proofs.Folds.{IsAfter}
use Rattle.line_plan.specs.Plan.{distances, narrowed}
use Rattle.line_engine.specs.Answers.{IsFilled, made_at}
use Rattle.line_engine.proofs.StepLemmas.{bears_at}
use Rattle.line_engine.proofs.parts.with_bearings.Given as goal

-- what is left leads to the whole, over the table
abbrev pub invariant-loop-bearing : goal.invariant-loop-bearing
invariant-loop-bearing l = record {
  room : l.work.at ≤ l.initial.work.at + 2000 * l.bearing-index;
  set : IsFilled (length l.node.path.now) l.so_far;
  budget : l.work.memo.budget ≡ l.initial.work.memo.budget;
  left : (a : Automaton) → l.reached ≡ a ∷ []
      → IsAfter l.bearings (λ b. with_item {P = Unit {0}} (distances (length l.node.path.now)) tt (narrowed (length l.node.path.now) (bears_at l.node b) (Table a)))
      (Nothing, l.initial.work.at) l.initial.work.memo.budget l.bearing-index (made_at l.work.at l.so_far);
}
