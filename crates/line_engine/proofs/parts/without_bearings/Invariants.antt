use Rattle.std.proofs.Common.{◌≡◌, ◌≤◌, ◌+◌, ◌*◌, length}
use Rattle.lin_formula.specs.SetOf.{as_set}
use Rattle.lin_formula.specs.Tree.{Not}
use Rattle.set_plan.proofs.Folds.{IsAfter}
use Rattle.line_plan.specs.Plan.{narrow}
use Rattle.line_engine.specs.Answers.{IsFilled, made_at}
use Rattle.line_engine.proofs.StepLemmas.{bears_at}
use Rattle.line_engine.proofs.parts.without_bearings.Given as goal

-- what is left leads to the whole
abbrev pub invariant-loop-bearing : goal.invariant-loop-bearing
invariant-loop-bearing l = record {
  room : l.work.at ≤ l.initial.work.at + 1000 * l.bearing-index;
  set : IsFilled (length l.node.path.now) l.left;
  budget : l.work.memo.budget ≡ l.initial.work.memo.budget;
  left : IsAfter l.bearings (λ b. narrow (length l.node.path.now) (Not (bears_at l.node b))) (as_set l.fn.so_far, l.initial.work.at) l.initial.work.memo.budget
      l.bearing-index (made_at l.work.at l.left);
}
