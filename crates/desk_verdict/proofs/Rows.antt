-- What is reported of a plan that is to be within a budget is one report. Crates above cite these lemmas.
use Rattle.std.proofs.Common.{◌≡◌, ℕ, List, inl, inr, sym, ap, ◌∙◌}
use Rattle.desk_base.specs.Files.{Files}
use Rattle.desk_report.specs.Outcome.{Report}
use Rattle.desk_report.proofs.One.{IsOne, and_row, over_row}
use Rattle.desk_text.specs.declared.problem.Problem.{Problem}
use Rattle.desk_verdict.specs.StepLines.{budget_line}
use Rattle.desk_verdict.specs.Verdict.{ExceedsAt, FitsBudget, IsVerdict, WithinBudget}
use Rattle.desk_verdict.proofs.OneStep.{exceeds_once, fits_exceeds}

pub within_row : (n budget : ℕ) (problem : Problem) {reports : Report → Type 0} (files : Files) → IsOne reports → IsOne (WithinBudget n budget problem reports files)
within_row n budget problem {reports} files one =
    over_row budget_line (ExceedsAt problem budget n) {rest = λ report. FitsBudget problem budget n × reports report} files
    (and_row (FitsBudget problem budget n) one)
    (λ s t a b. ap budget_line (exceeds_once problem budget n s t a b)) (λ step report over right. fits_exceeds problem budget n step right.0 over)

-- a verdict is one line
pub once_verdict : (n : ℕ) (problem : Problem) (one other : List ℕ) → IsVerdict n problem one → IsVerdict n problem other → one ≡ other
once_verdict n problem one other (inl (a, v)) (inl (b, w)) = a ∙ sym b
once_verdict n problem one other (inl (a, v)) (inr (b, w)) = absurd (w v)
once_verdict n problem one other (inr (a, v)) (inl (b, w)) = absurd (v w)
once_verdict n problem one other (inr (a, v)) (inr (b, w)) = a ∙ sym b
