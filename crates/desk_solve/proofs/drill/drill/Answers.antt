use Rattle.std.proofs.Common.{ap, inl, inr, ◌∙◌}
use Rattle.std.specs.Prelude.{Err}
use Rattle.desk_solve.specs.Drill.{DrillReports}
use Rattle.desk_report.specs.Outcome.{NeverMisses, done_with}
use Rattle.desk_report.proofs.Writing.{ends_as, printed}
use Rattle.desk_solve.proofs.drill.drill.Goals as goal

pub returns-in-Ok : goal.returns-in-Ok
returns-in-Ok g c = record {
  ends = λ files. let text = c.as_slice.result.now in
      printed c.print.result (DrillReports c.args.seed c.args.count files) _ _ _ (done_with files text)
      (inr (c.in-Ok.mates, c.in-Ok.ensures.found, ap (done_with files) (c.as_slice.ensures ∙ c.drill_line-line.ensures)))
      (c.print.ensures.ends files);
}

pub returns-in-Err : goal.returns-in-Err
returns-in-Err g c = record {
  ends = λ files.
      ends_as c.print_error.result _ (DrillReports c.args.seed c.args.count files) _ _ NeverMisses NeverMisses _ _
      (λ report step. inl (step.0, c.in-Err.ensures.step step.0 step.1, step.2))
      (λ memory. c.in-Err.ensures.memory (ap Err memory))
      (λ keeping never. never)
      (c.print_error.ensures.ends files);
}
