-- The report of `least`.
use Rattle.std.specs.Prelude.{◌≡◌, ℕ, ◌<◌, ◌≤◌, List, ◌++◌, Option, Some, None, codes, unwrap_or}
use Rattle.std.specs.Fmt.{decimal}
use Rattle.desk_base.specs.Files.{Files}
use Rattle.game_rules.specs.Game as game
use Rattle.winning_sets.specs.declared.names.StepName.{StepName}
use Rattle.desk_report.specs.Outcome.{FirstOver, Report, done_with}
use Rattle.desk_verdict.specs.StepLines.{budget_line}
use Rattle.desk_verdict.specs.Verdict.{ExceedsAt, FitsBudget}
use Rattle.desk_text.specs.declared.problem.Problem.{Problem}

-- the line with the least number of moves within which the winner mates, or that there is none up to the limit
abbrev pub least_line : ℕ → Option ℕ → List ℕ
least_line limit (Some n) = codes "least " ++ decimal n ++ codes "\n"
least_line limit None = codes "none up to " ++ decimal limit ++ codes "\n"

-- The numbers of moves are tried from 0 on. The winner does not mate within any of those before one of them, the plans
-- of those are within the budget, and the step is the first one that exceeds it in the plan of that number.
abbrev pub LeastStops : ℕ → ℕ → Problem → StepName → Type 0
LeastStops limit budget problem step =
    (n : ℕ) × (n ≤ limit)
    × ((k : ℕ) → k < n → FitsBudget problem budget k × (game.Value problem.winner k problem.position → ⊥))
    × ExceedsAt problem budget n step

-- this is the least number of moves up to the limit within which the winner mates, or there is none, and the plans up
-- to it are within the budget
abbrev pub LeastFinds : ℕ → ℕ → Problem → Option ℕ → Type 0
LeastFinds limit budget problem found =
    game.Least problem.winner problem.position limit found
    × ((n : ℕ) → n ≤ unwrap_or found limit → FitsBudget problem budget n)

-- the least number of moves within which the winner mates, or the first step that exceeds the budget
abbrev pub LeastReports : ℕ → ℕ → Problem → Files → Report → Type 0
LeastReports limit budget problem files =
    FirstOver budget_line (LeastStops limit budget problem)
    (λ report. (found : Option ℕ) × LeastFinds limit budget problem found
    × (report ≡ done_with files (least_line limit found))) files
