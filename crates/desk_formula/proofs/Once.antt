-- Of the first line of an input one thing is reported.
use Rattle.std.proofs.Common.{ℕ, List, false, ap}
use Rattle.lin_formula.specs.Tree.{Tree}
use Rattle.formula_auto.specs.declared.errors.CompileError.TheVariants.{Over}
use Rattle.desk_base.specs.Files.{Files}
use Rattle.desk_base.specs.Lines.{Lines, full, ended, cut, long}
use Rattle.arith_desk.specs.Reading.{IsFirstRefused, IsFormulaLine}
use Rattle.arith_desk.specs.Truth.{IsOver, IsTruth, IsWithin}
use Rattle.arith_desk.proofs.OneAnswer.{one_excess, one_truth}
use Rattle.arith_desk.proofs.OneStop.{formula_is_not_refused, one_meaning, one_refusal}
use Rattle.desk_report.specs.Outcome.{refusal_as}
use Rattle.desk_report.specs.declared.status.Status.TheVariants as is
use Rattle.desk_report.proofs.One.{IsOne, and_row, due_of_row, due_row, either_row, line_row, over_row, said_row}
use Rattle.desk_text.specs.declared.text.LineWhy.TheVariants.{Long, Cut, Missing}
use Rattle.desk_formula.specs.Arith.{ArithReports, FormulaReports, LineReports, field_line, refused_as, step_line, truth_line}

formula_row : (budget : ℕ) (f : Tree) (files : Files) → IsOne (FormulaReports budget f files)
formula_row budget f files =
    over_row step_line (λ step. IsOver f budget (Over step)) files
    (and_row (IsWithin f budget) (line_row (IsTruth f) truth_line files (λ t u a b. ap truth_line (one_truth f t u a b))))
    (λ m n a b. ap step_line ((one_excess f budget).one_step m n a b)) (λ step report over right. (one_excess f budget).not_both step right.0 over)

first_row : (budget : ℕ) (line : List ℕ) (files : Files) → IsOne (LineReports budget line files)
first_row budget line files =
    either_row
    (due_of_row (IsFirstRefused line) (λ number. refusal_as files is.Text (field_line number) false) (λ number e. absurd (cc))
    (λ m n a b. ap (λ number. refusal_as files is.Text (field_line number) false) (one_refusal line m n a b)))
    (said_row (IsFormulaLine line) (λ f. FormulaReports budget f files) (one_meaning line) (λ f. formula_row budget f files))
    (λ r s refused means. formula_is_not_refused line means.0 refused.0 means.1 refused.1)

pub arith_row : (budget : ℕ) (lines : Lines) (files : Files) → IsOne (ArithReports budget lines files)
arith_row budget (full line rest) files = first_row budget line files
arith_row budget ended files = due_row (refused_as files Missing) (λ e. absurd (cc))
arith_row budget (cut front) files = due_row (refused_as files Cut) (λ e. absurd (cc))
arith_row budget long files = due_row (refused_as files Long) (λ e. absurd (cc))
