use Rattle.std.proofs.Common.{ap, inl, inr, ◌∙◌}
use Rattle.std.specs.Prelude.{Err}
use Rattle.desk_solve.specs.Least.{LeastReports}
use Rattle.desk_report.specs.Outcome.{NeverMisses, done_with}
use Rattle.desk_report.proofs.Writing.{ends_as, printed}
use Rattle.desk_solve.proofs.least.least.Goals as goal

pub returns-in-Ok : goal.returns-in-Ok
returns-in-Ok g c = record {
  ends = λ files. let task = c.args.task.now in
      let text = c.as_slice.result.now in
      printed c.print.result (LeastReports task.moves task.budget task.problem files) _ _ _ (done_with files text)
      (inr (c.in-Ok.found, c.in-Ok.ensures.found, ap (done_with files) (c.as_slice.ensures ∙ c.least_line-line.ensures)))
      (c.print.ensures.ends files);
}

pub returns-in-Err : goal.returns-in-Err
returns-in-Err g c = record {
  ends = λ files. let task = c.args.task.now in
      ends_as c.print_error.result _ (LeastReports task.moves task.budget task.problem files) _ _ NeverMisses NeverMisses _ _
      (λ report step. inl (step.0, c.in-Err.ensures.step step.0 step.1, step.2))
      (λ memory. c.in-Err.ensures.memory (ap Err memory)) (λ keeping never. never)
      (c.print_error.ensures.ends files);
}
