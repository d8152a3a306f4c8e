use Rattle.std.proofs.Common.{refl}
use Rattle.desk_report.specs.Outcome.{done_with}
use Rattle.mate_desk.specs.Show.{ShowReports}
use Rattle.desk_report.proofs.Writing.{printed}
use Rattle.mate_desk.proofs.show.show.Goals as goal

pub returns-in-Ok : goal.returns-in-Ok
returns-in-Ok g c = record {
  ends = λ files. let text = c.as_slice.result.now in
      printed c.print.result (ShowReports c.args.problem.now files) (Unit {0}) _ _ (done_with files text)
      (text, rw c.as_slice.ensures.value c.in-Ok.ensures, refl)
      (c.print.ensures.ends files);
}
