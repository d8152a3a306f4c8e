-- What is reported of a crowd is one report. Crates above cite these lemmas.
use Rattle.std.proofs.Common.{ℕ, ap}
use Rattle.desk_base.specs.Files.{Files}
use Rattle.desk_base.specs.Lines.{Lines}
use Rattle.set_plan.specs.declared.stop.PartStep.{PartStep}
use Rattle.line_plan.proofs.Once.{plan_ends_once}
use Rattle.desk_text.specs.declared.problem.Problem.{Problem}
use Rattle.desk_report.specs.Outcome.{done_with}
use Rattle.desk_report.proofs.One.{IsDueOf, IsOne, and_row, line_row, over_row}
use Rattle.desk_report.proofs.TextRows.{text_row}
use Rattle.desk_verdict.specs.Verdict.{IsVerdict}
use Rattle.desk_verdict.proofs.Rows.{once_verdict}
use Rattle.desk_crowd.specs.Crowd.{CrowdReports, CrowdSays, ExceedsPlan, FitsPlan, crowd_texts, step_line}

problem_row : (n budget : ℕ) (problem : Problem) (files : Files) → IsOne (CrowdReports n budget problem files)
problem_row n budget problem files =
    let once = plan_ends_once problem.position problem.winner n budget in
    over_row step_line (ExceedsPlan problem budget n)
    {rest = λ report. FitsPlan problem budget n × IsDueOf (IsVerdict n problem) (λ line. done_with files line) report} files
    (and_row (FitsPlan problem budget n) (line_row (IsVerdict n problem) (λ line. line) files (once_verdict n problem)))
    (λ s t a b. ap (λ (step : PartStep (Unit {0})). step_line step.at) (once.one_step _ _ a b))
    (λ step report over right. once.not_both right.0.0 _ right.0.1 over)

pub crowd_row : (n budget : ℕ) (lines : Lines) (files : Files) → IsOne (CrowdSays n budget lines files)
crowd_row n budget lines files =
    text_row crowd_texts (λ problem rest. CrowdReports n budget problem files) files (λ problem rest. problem_row n budget problem files) lines
