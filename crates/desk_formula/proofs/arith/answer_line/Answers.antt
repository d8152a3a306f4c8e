use Rattle.std.proofs.Common.{false, inl, inr, refl}
use Rattle.lin_formula.specs.TreeOf.{tree_of}
use Rattle.desk_report.specs.Outcome.{NeverMisses, refusal_as}
use Rattle.desk_report.specs.declared.status.Status.TheVariants as is
use Rattle.desk_report.proofs.Writing.{ends_as}
use Rattle.desk_formula.specs.Arith.{FormulaReports, LineReports, field_line}
use Rattle.desk_formula.proofs.arith.answer_line.Goals as goal

pub returns-in-Ok : goal.returns-in-Ok
returns-in-Ok g c = record {
  ends = λ files.
      ends_as c.answer.result (FormulaReports c.args.budget (tree_of c.in-Ok.f) files) (LineReports c.args.budget c.args.line.now files)
      (Unit {0}) (Unit {0}) NeverMisses NeverMisses _ _
      (λ report right. inr (tree_of c.in-Ok.f, c.in-Ok.ensures.formula, right))
      (λ some. some)
      (λ keeping never. never)
      (c.answer.ensures.ends files);
}

pub returns-in-Err-Field : goal.returns-in-Err-Field
returns-in-Err-Field g c = record {
  ends = λ files.
      let number = c.in-Err-Field.number in (
        refusal_as files is.Text (field_line number) false,
        inl (number, rw c.in-Err-Field.field-0-is at c.in-Err-Field.ensures.refused, refl),
        record { reported = refl; written = rw (c.as_slice.ensures, c.field_line-fault.ensures, c.in-Err-Field.field-0-is) at c.refuse.ensures.written; files = refl },
      );
}
