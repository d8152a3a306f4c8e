use Rattle.std.proofs.Common.{Some, false, inl, inr, refl, ◌∙◌}
use Rattle.desk_report.specs.Outcome.{done_with, refusal_as}
use Rattle.desk_report.specs.declared.status.Status.TheVariants as is
use Rattle.desk_report.proofs.Writing.{printed}
use Rattle.desk_verdict.proofs.Values.{verdict_is}
use Rattle.desk_crowd.specs.Crowd.{CrowdReports, FitsPlan, problem_in, step_line}
use Rattle.desk_crowd.proofs.crowd.answer.Goals as goal

pub returns-in-Ok : goal.returns-in-Ok
returns-in-Ok g c = record {
  ends = λ files.
      let problem = problem_in c.args.crowd.now in
      let fits : FitsPlan problem c.args.budget c.args.moves = (Some c.in-Ok.mates, c.in-Ok.ensures.within) in
      let line = c.verdict_line-line.ensures in
      let text = c.as_slice.result.now in
      let verdict =
      verdict_is c.args.moves problem c.in-Ok.mates text (λ won. c.as_slice.ensures ∙ line.won won)
      (λ not_won. c.as_slice.ensures ∙ line.not_won not_won) c.in-Ok.ensures.verdict in
      printed c.print.result (CrowdReports c.args.moves c.args.budget problem files) (Unit {0}) _ _ (done_with files text) (inr (fits, (text, verdict, refl)))
      (c.print.ensures.ends files);
}

pub returns-in-Err-Over : goal.returns-in-Err-Over
returns-in-Err-Over g c = record {
  ends = λ files.
      let step = c.in-Err-Over.step in (
        refusal_as files is.Budget (step_line step) false,
        inl (step, rw c.in-Err-Over.field-0-is at c.in-Err-Over.ensures.over, refl),
        record { reported = refl; written = rw (c.as_slice-in-Err-Over.ensures, c.step_line-line.ensures) at c.refuse.ensures.written; files = refl },
      );
}
