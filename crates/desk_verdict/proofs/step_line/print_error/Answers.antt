use Rattle.std.proofs.Common.{refl}
use Rattle.desk_verdict.specs.StepLines.{over_budget}
use Rattle.desk_verdict.proofs.step_line.print_error.Goals as goal

pub returns-in-Over : goal.returns-in-Over
returns-in-Over g c = record {
  ends = λ files.
      let step = c.in-Over.step in
      (over_budget files step, (step, c.in-Over.is, refl), record { reported = refl; written = rw (c.as_slice.ensures, c.budget_line-line.ensures) at c.refuse.ensures.written; files = refl });
}
