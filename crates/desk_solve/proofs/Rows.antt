-- What is reported of `decide` and of `least` is one report.
use Rattle.std.proofs.Common.{◌≡◌, ℕ, Option, Some, None, inl, inr, refl, ap, subst, arith}
use Rattle.desk_base.specs.Files.{Files}
use Rattle.game_rules.specs.Game as game
use Rattle.chess_game.proofs.UnsoundnessLemmas.{number_cases}
use Rattle.winning_sets.specs.declared.names.StepName.{StepName}
use Rattle.desk_report.specs.Outcome.{done_with}
use Rattle.desk_report.proofs.One.{IsDueOf, IsOne, line_row, over_row}
use Rattle.desk_text.specs.declared.problem.Problem.{Problem}
use Rattle.desk_verdict.specs.StepLines.{budget_line}
use Rattle.desk_verdict.specs.Verdict.{ExceedsAt, IsVerdict}
use Rattle.desk_verdict.proofs.OneStep.{exceeds_once, fits_exceeds}
use Rattle.desk_verdict.proofs.Rows.{once_verdict, within_row}
use Rattle.desk_solve.specs.Decide.{DecideReports}
use Rattle.desk_solve.specs.Least.{LeastFinds, LeastReports, LeastStops, least_line}

pub decide_row : (n budget : ℕ) (problem : Problem) (files : Files) → IsOne (DecideReports n budget problem files)
decide_row n budget problem files = within_row n budget problem files (line_row (IsVerdict n problem) (λ line. line) files (once_verdict n problem))

once_found : (problem : Problem) (limit : ℕ) (one other : Option ℕ) → game.Least problem.winner problem.position limit one
    → game.Least problem.winner problem.position limit other → one ≡ other
once_found problem limit (Some m) (Some n) a b = elim (number_cases m n) [
  | inl less ↦ absurd (b.2 m less a.1)
  | inr (inl same) ↦ ap (λ k. Some k) same
  | inr (inr more) ↦ absurd (a.2 n more b.1)
]
once_found problem limit (Some m) None a b = absurd (b m a.0 a.1)
once_found problem limit None (Some n) a b = absurd (a n b.0 b.1)
once_found problem limit None None a b = refl

-- the numbers of moves are gone through to one end
found_stops : (limit budget : ℕ) (problem : Problem) (found : Option ℕ) (step : StepName) → LeastFinds limit budget problem found → LeastStops limit budget problem step → ⊥
found_stops limit budget problem (Some m) step (least, fits) (n, within, passed, over) = elim (number_cases m n) [
  | inl less ↦ (passed m less).1 least.1
  | inr (inl same) ↦ fits_exceeds problem budget n step (fits n (omega (arith, same))) over
  | inr (inr more) ↦ fits_exceeds problem budget n step (fits n (omega (arith, more))) over
]
found_stops limit budget problem None step (least, fits) (n, within, passed, over) = fits_exceeds problem budget n step (fits n within) over

once_stop : (limit budget : ℕ) (problem : Problem) (one other : StepName) → LeastStops limit budget problem one → LeastStops limit budget problem other → one ≡ other
once_stop limit budget problem one other a b = elim (number_cases a.0 b.0) [
  | inl less ↦ absurd (fits_exceeds problem budget a.0 one (b.2 a.0 less).0 a.3)
  | inr (inl same) ↦ exceeds_once problem budget b.0 one other (subst (λ n. ExceedsAt problem budget n one) same a.3) b.3
  | inr (inr more) ↦ absurd (fits_exceeds problem budget b.0 other (a.2 b.0 more).0 b.3)
]

pub least_row : (limit budget : ℕ) (problem : Problem) (files : Files) → IsOne (LeastReports limit budget problem files)
least_row limit budget problem files =
    over_row budget_line (LeastStops limit budget problem) {rest = IsDueOf (LeastFinds limit budget problem) (λ found. done_with files (least_line limit found))} files
    (line_row (LeastFinds limit budget problem) (least_line limit) files (λ f g a b. ap (least_line limit) (once_found problem limit f g a.0 b.0)))
    (λ s t a b. ap budget_line (once_stop limit budget problem s t a b)) (λ step report stops right. found_stops limit budget problem right.0 step right.1 stops)
