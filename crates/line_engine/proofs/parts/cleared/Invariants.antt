use Rattle.std.proofs.Common.{◌≡◌, ◌≤◌, ◌+◌, ◌*◌, length}
use Rattle.lin_formula.specs.SetOf.{as_set}
use Rattle.rule_formula.specs.Placed.{is_live}
use Rattle.line_formula.specs.Places.{home}
use Rattle.line_formula.specs.Rules.{clear_parts}
use Rattle.set_plan.specs.Outcome.{Ends}
use Rattle.set_plan.specs.Program.{each}
use Rattle.line_plan.specs.Plan.{narrow}
use Rattle.line_engine.specs.Answers.{IsFilled, made_at}
use Rattle.line_engine.proofs.parts.cleared.Given as goal

-- what is left after the first men
abbrev pub invariant-loop-n : goal.invariant-loop-n
invariant-loop-n l = record {
  room : l.work.at ≤ l.initial.work.at + 1000 * l.n;
  set : IsFilled (length l.step.after.path.now) l.left;
  budget : l.work.memo.budget ≡ l.initial.work.memo.budget;
  ends : Ends (each (clear_parts (home l.step.before.crowd.men.now) l.step.before.legs.now l.step.leg (is_live l.step.before.force.mask) l.step.option.taken l.n)
      (narrow (length l.step.after.path.now)) (as_set l.fn.so_far, l.initial.work.at)) l.initial.work.memo.budget (made_at l.work.at l.left);
}
