-- The report of `decide`.
use Rattle.std.specs.Prelude.{◌≡◌, ◌↔◌, ◌⊎◌, ℕ, List, []}
use Rattle.desk_base.specs.Files.{Files}
use Rattle.game_rules.specs.Game.{Value}
use Rattle.winning_sets.specs.declared.names.StepName.{StepName}
use Rattle.desk_report.specs.Outcome.{Report, done_with}
use Rattle.desk_verdict.specs.StepLines.{budget_line}
use Rattle.desk_verdict.specs.Verdict.{ExceedsAt, IsVerdict, WithinBudget, mate_line, no_mate_line}
use Rattle.desk_text.specs.declared.problem.Problem.{Problem}
use Rattle.desk_report.specs.declared.status.Status.TheVariants as is

-- whether the winner mates within n moves of his own, or the first step that exceeds the budget
abbrev pub DecideReports : ℕ → ℕ → Problem → Files → Report → Type 0
DecideReports n budget problem files =
    WithinBudget n budget problem
    (λ report. (line : List ℕ) × IsVerdict n problem line × (report ≡ done_with files line)) files

-- the run ends as done with one of the two lines and no fault line
pub record IsAnswered (n : ℕ) (report : Report) : Type 0 where
  pub status : report.status ≡ is.Done
  pub text : (report.text ≡ mate_line n) ⊎ (report.text ≡ no_mate_line n)
  pub fault : report.fault ≡ []

-- the run names the first step that exceeds the budget, and writes nothing else
pub record IsOverBudget (n budget : ℕ) (problem : Problem) (report : Report) : Type 0 where
  pub status : report.status ≡ is.Budget
  pub text : report.text ≡ []
  pub step : StepName
  pub first : ExceedsAt problem budget n step
  pub fault : report.fault ≡ budget_line step

-- The report of `decide` for a sound position: it is done, with the first line if and only if the winner mates within n
-- moves of his own, and with the second if and only if he does not; or it names the first step that exceeds the budget.
pub record IsExact (n budget : ℕ) (problem : Problem) (report : Report) : Type 0 where
  pub cause : IsAnswered n report ⊎ IsOverBudget n budget problem report
  pub mate : report.status ≡ is.Done → (report.text ≡ mate_line n) ↔ Value problem.winner n problem.position
  pub no_mate : report.status ≡ is.Done → (report.text ≡ no_mate_line n) ↔ (¬ Value problem.winner n problem.position)
