use Rattle.std.proofs.Common.{refl}
use Rattle.desk_report.specs.Outcome.{done_with}
use Rattle.desk_report.proofs.Writing.{text_written}
use Rattle.desk_report.proofs.output.print.Goals as goal

pub returns-in-Ok : goal.returns-in-Ok
returns-in-Ok g c = record {
  ends = λ files. let text = c.args.text.now in
      (done_with files text, refl, record { reported = refl; written = text_written text _ _ _ c.in-Ok.ensures.all; files = refl });
}

pub returns-in-Err : goal.returns-in-Err
returns-in-Err g c = record { ends = λ files. (done_with files c.args.text.now, refl, record { failed = c.in-Err.ensures.failed; written = c.in-Err.ensures.err; files = refl }) }
