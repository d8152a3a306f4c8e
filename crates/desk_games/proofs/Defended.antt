-- What `defend` reports, from what is solved.
use Rattle.std.proofs.Common.{◌≡◌, ℕ, inr, refl, sym, ap, subst, ◌∙◌}
use Rattle.desk_base.specs.Files.{Files}
use Rattle.desk_base.specs.Lines.{Lines}
use Rattle.game_rules.specs.Game.{Position, Value}
use Rattle.game_rules.specs.declared.men.Side.{Side}
use Rattle.chess_game.specs.declared.way.Frame.{Frame}
use Rattle.mate_plan.specs.PlanOf.{plan_of}
use Rattle.move_choice.specs.Squares.{all_squares}
use Rattle.winning_sets.specs.Claimed.{IsValid}
use Rattle.winning_sets.specs.Solve.{IsOf, IsWithin, Solution}
use Rattle.winning_sets.proofs.ValidLemmas.{plan_valid}
use Rattle.winner_session.specs.Game.{Game, start_of}
use Rattle.play_loop.specs.LineReport.{IsReport, LineReport}
use Rattle.loser_session.specs.Defending.{DefenceMatch, seen}
use Rattle.loser_session.specs.Unwon.{RestsFit}
use Rattle.loser_session.proofs.Fitting.{rests_fit}
use Rattle.loser_player.specs.LoserRules.{loser_rules}
use Rattle.desk_verdict.specs.Verdict.{FitsBudget}
use Rattle.desk_text.specs.declared.problem.Problem.{Problem}
use Rattle.desk_games.specs.Defend.{DefendReports, first_defence}
use Rattle.desk_games.specs.Play.{as_played}

-- the game of a defence that begins with a solved problem
pub seen_defence : (problem : Problem) (n : ℕ) (s : Solution) (f : Frame) (g : Game) → IsOf problem.position problem.winner n s → f ≡ all_squares → g ≡ start_of s f → seen g ≡ first_defence n problem
seen_defence problem n s f g of whole is = ap seen is ∙ (λ i. record {
  winner = of.winner_is i;
  start = of.position i;
  moves = of.moves_are i;
  frame = whole i;
  position = of.position i;
  ply = 0;
})

-- the budget of a problem is enough for a defence that begins with it
pub fits_defence : (problem : Problem) (budget n : ℕ) (s : Solution) → IsOf problem.position problem.winner n s → IsValid s → FitsBudget problem budget n → RestsFit s budget
fits_defence problem budget n s of valid fits =
    let Moves : ℕ → Type 0 = λ k. IsWithin (plan_of s.winner s.position k) budget in
    let At : Position → Type 0 = λ p. IsWithin (plan_of s.winner p n) budget in
    let By : Side → Type 0 = λ w. IsWithin (plan_of w problem.position n) budget in
    rests_fit s (plan_valid s valid of.origin) budget
    (subst Moves (sym of.moves_are) (subst At (sym of.position) (subst By (sym of.winner_is) fits)))

-- the game that `defend` reports
pub reports_defence : (n budget : ℕ) (problem : Problem) (files : Files) → FitsBudget problem budget n → (Value problem.winner n problem.position → ⊥)
    → (lines : Lines) (played : LineReport DefenceMatch) → IsReport loser_rules problem.lines lines (first_defence n problem) played
    → DefendReports n budget problem lines files (as_played files played)
reports_defence n budget problem files fits none lines played right = inr (fits, inr (none, (played, right, refl)))
