-- The report of `arith`, and how it ends.
use Rattle.std.specs.Prelude.{◌≡◌, ◌⊎◌, ℕ, ◌≤◌, ℤ, List, [], ◌∷◌, ◌++◌, length, false, codes}
use Rattle.std.specs.Fmt.{decimal, signed_decimal}
use Rattle.lin_formula.specs.Tree.{Tree}
use Rattle.formula_auto.specs.declared.errors.CompileError.TheVariants.{Over}
use Rattle.arith_desk.specs.Reading.{IsFirstRefused, IsFormulaLine}
use Rattle.arith_desk.specs.Truth.{IsOver, IsTruth, IsWithin}
use Rattle.arith_desk.specs.declared.deciding.Truth.{Truth}
use Rattle.arith_desk.specs.declared.deciding.Truth.TheVariants as truths
use Rattle.desk_base.specs.Files.{Files}
use Rattle.desk_base.specs.Lent.{Lent, both_new, both_old}
use Rattle.desk_base.specs.Lines.{IsLine, Lines, full, ended, cut, long}
use Rattle.desk_report.specs.ByLines.{EndsByLines}
use Rattle.desk_base.specs.declared.sink.Sink.{Ghosts as SinkModel}
use Rattle.desk_base.specs.declared.source.Source.{Ghosts as SourceModel}
use Rattle.desk_report.specs.Outcome.{FirstOver, NeverMisses, Report, Seen, done_with, refusal_as}
use Rattle.desk_report.specs.Ports.{streams_seen}
use Rattle.desk_text.specs.Text.{is_end, refusal_line}
use Rattle.desk_report.specs.declared.status.Status.{Status}
use Rattle.desk_report.specs.declared.status.Status.TheVariants as is
use Rattle.desk_text.specs.declared.text.LineWhy.{LineWhy}
use Rattle.desk_text.specs.declared.text.LineWhy.TheVariants.{Long, Cut, Missing}

-- the line with a number with which the formula is true
abbrev pub witness_line : ℤ → List ℕ
witness_line w = codes "true witness " ++ signed_decimal w ++ codes "\n"

-- the line for the answer to a formula
abbrev pub truth_line : Truth → List ℕ
truth_line truths.False = codes "false\n"
truth_line truths.True = codes "true\n"
truth_line (truths.Witness w) = witness_line w
truth_line truths.WitnessWide = codes "true witness wide\n"

-- the fault line of a line that is not a formula: the field of this number is the first that does not fit
abbrev pub field_line : (number : ℕ) → List ℕ
field_line number = codes "text line 1 formula " ++ decimal number ++ codes "\n"

-- the fault line of a formula of which the step of this number is the first that exceeds the budget
abbrev pub step_line : (step : ℕ) → List ℕ
step_line step = codes "over budget at arith " ++ decimal step ++ codes "\n"

-- the first step of a formula that exceeds the budget, or whether the formula is true over all integers
abbrev pub FormulaReports : (budget : ℕ) → Tree → Files → Report → Type 0
FormulaReports budget f files =
    FirstOver step_line (λ step. IsOver f budget (Over step))
    (λ report.
    IsWithin f budget × ((truth : Truth) × IsTruth f truth × (report ≡ done_with files (truth_line truth)))) files

-- the first field of a line that does not fit, or the report of the formula in the line
abbrev pub LineReports : (budget : ℕ) → (line : List ℕ) → Files → Report → Type 0
LineReports budget line files report =
    ((number : ℕ) × IsFirstRefused line number × (report ≡ refusal_as files is.Text (field_line number) false))
    ⊎ ((f : Tree) × IsFormulaLine line f × FormulaReports budget f files report)

-- the line is refused, whatever it should be
abbrev pub refused_as : Files → LineWhy → Report
refused_as files why = refusal_as files is.Text (refusal_line 1 why) (is_end why)

-- the report of the first of these lines
abbrev pub ArithReports : (budget : ℕ) → Lines → Files → Report → Type 0
ArithReports budget (full line rest) files report = LineReports budget line files report
ArithReports budget ended files report = report ≡ refused_as files Missing
ArithReports budget (cut front) files report = report ≡ refused_as files Cut
ArithReports budget long files report = report ≡ refused_as files Long

-- The bytes taken are a line, its LF, and at most 256 bytes after it.
pub record IsBehindLine (taken : List ℕ) : Type 0 where
  pub line : List ℕ
  pub pending : List ℕ
  pub is_line : IsLine line
  pub bytes : taken ≡ line ++ 10 ∷ pending
  pub few : length pending ≤ 256

-- how `arith` ends; nothing of its input was taken before, and at the end it holds `pending`
abbrev pub ArithEnds : (budget : ℕ) → Files → Status → (pending : List ℕ) → Seen → Seen → Type 0
ArithEnds budget files status pending old new =
    EndsByLines (λ lines. ArithReports budget lines files) IsBehindLine (λ bytes. NeverMisses) status [] pending old new

-- how it ends with a source and a sink, for any files
abbrev pub ArithEndsOn : {S K : Type 0} → SourceModel S → SinkModel K → (budget : ℕ) → Status
    → (ports : Lent S × Lent K) → Type 0
ArithEndsOn s k budget status ports =
    (files : Files)
    → (pending : List ℕ)
    × ArithEnds budget files status pending (streams_seen s k files (both_old ports))
    (streams_seen s k files (both_new ports))
