use Rattle.std.proofs.Common.{ap, inl, inr, refl, ◌∙◌}
use Rattle.std.specs.Prelude.{Err}
use Rattle.desk_solve.specs.Decide.{DecideReports}
use Rattle.desk_report.specs.Outcome.{NeverMisses, done_with}
use Rattle.desk_verdict.specs.Verdict.{FitsBudget}
use Rattle.desk_verdict.proofs.Values.{verdict_is}
use Rattle.desk_report.proofs.Writing.{ends_as, printed}
use Rattle.desk_solve.proofs.decide.decide.Goals as goal

pub returns-in-Ok : goal.returns-in-Ok
returns-in-Ok g c = record {
  ends = λ files. let task = c.args.task.now in
      let fits : FitsBudget task.problem task.budget task.moves = rw (c.new-solver.ensures.problem, c.new-solver.ensures.budget) at c.in-Ok.ensures.fits in
      let line = c.verdict_line-line.ensures in
      let text = c.as_slice.result.now in
      let verdict =
      verdict_is task.moves task.problem c.is_some.result text (λ won. c.as_slice.ensures ∙ line.won won)
      (λ not_won. c.as_slice.ensures ∙ line.not_won not_won) (rw c.is_some.ensures (rw c.new-solver.ensures.problem at c.in-Ok.ensures.won)) in
      printed c.print.result (DecideReports task.moves task.budget task.problem files) _ _ _ (done_with files text) (inr (fits, (text, verdict, refl))) (c.print.ensures.ends files);
}

pub returns : goal.returns
returns g c = record {
  ends = λ files. let task = c.args.task.now in
      ends_as c.print_error.result _ (DecideReports task.moves task.budget task.problem files) _ _ NeverMisses NeverMisses _ _
      (λ report step. inl (step.0, rw (c.new-solver.ensures.problem, c.new-solver.ensures.budget) at (c.in-Err.ensures.step step.0 step.1), step.2))
      (λ memory. rw c.new-solver.ensures.problem at (c.in-Err.ensures.memory (ap Err memory))) (λ keeping never. never)
      (c.print_error.ensures.ends files);
}
