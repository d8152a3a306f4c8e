use Rattle.std.proofs.Common.{false, inl, inr, refl, ap, ◌∙◌}
use Rattle.lin_formula.specs.TreeOf.{tree_of}
use Rattle.desk_report.specs.Outcome.{done_with, refusal_as}
use Rattle.desk_report.specs.declared.status.Status.TheVariants as is
use Rattle.desk_report.proofs.Writing.{printed}
use Rattle.desk_formula.specs.Arith.{FormulaReports, step_line}
use Rattle.desk_formula.proofs.arith.answer.Goals as goal

pub returns-in-Ok : goal.returns-in-Ok
returns-in-Ok g c = record {
  ends = λ files. let text = c.as_slice.result.now in
      printed c.print.result (FormulaReports c.args.budget (tree_of c.args.f.now) files) (Unit {0}) _ _ (done_with files text)
      (inr (c.in-Ok.ensures.within, (c.in-Ok.truth, c.in-Ok.ensures.truth, ap (done_with files) (c.as_slice.ensures ∙ c.truth_line-line.ensures))))
      (c.print.ensures.ends files);
}

pub returns-in-Err-Over : goal.returns-in-Err-Over
returns-in-Err-Over g c = record {
  ends = λ files.
      let step = c.in-Err-Over.step in (
        refusal_as files is.Budget (step_line step) false,
        inl (step, rw c.in-Err-Over.field-0-is at c.in-Err-Over.ensures.over, refl),
        record { reported = refl; written = rw (c.as_slice-in-Err-Over.ensures, c.step_line-line.ensures) at c.refuse.ensures.written; files = refl },
      );
}
