use Rattle.std.proofs.Common.{false, refl}
use Rattle.desk_report.specs.Outcome.{refusal_as}
use Rattle.desk_report.specs.declared.status.Status.TheVariants as is
use Rattle.desk_describe.specs.RayStep.{ray_step_line}
use Rattle.desk_describe.proofs.ray_step.print_stop.Goals as goal

pub returns-in-Over : goal.returns-in-Over
returns-in-Over g c = record {
  ends = λ files.
      let step = c.in-Over.step in (
        refusal_as files is.Budget (ray_step_line step) false,
        (step, c.in-Over.is, refl),
        record { reported = refl; written = rw (c.as_slice.ensures, c.ray_step_line-line.ensures) at c.refuse.ensures.written; files = refl },
      );
}
