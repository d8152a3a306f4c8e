use Rattle.std.proofs.Common.{◌≡◌, ℕ, List, inl, inr, refl, ap, ◌∙◌}
use Rattle.std.specs.Prelude.{Err}
use Rattle.desk_base.specs.Lines.{Lines}
use Rattle.winner_player.specs.WinnerRules.{winner_rules}
use Rattle.desk_report.specs.Outcome.{NeverMisses, Report, done_with}
use Rattle.desk_games.specs.Play.{LacksAtFirst, PlayReports, first_match}
use Rattle.desk_verdict.specs.Verdict.{FitsBudget, HasNothingToPlay}
use Rattle.desk_games.proofs.Playing.{game_ends, reports_game, same_played, seen_first, still}
use Rattle.desk_verdict.proofs.Values.{none_mates, solved_value}
use Rattle.desk_games.proofs.play.play.Goals as goal

pub begin-requires : goal.begin-requires
begin-requires g c =
    let task = c.args.task.now in
    solved_value task.problem task.moves c.in-Ok-Some.solved (rw (c.in-Ok-Some.field-0-is, c.new-solver.ensures.problem) at c.in-Ok-Some.ensures.found) ((rw (c.in-Ok-Some.field-0-is, c.new-solver.ensures.problem) at c.in-Ok-Some.ensures.won).0 refl)

pub play_game-played-requires-clause-held : goal.play_game-played-requires-clause-held
play_game-played-requires-clause-held g c = c.requires.held

pub returns-in-Ok : goal.returns-in-Ok
returns-in-Ok g c = record {
  ends = λ files.
      let task = c.args.task.now in
      let problem = task.problem in
      let Says : Lines → Report → Type 0 = λ lines. PlayReports task.moves task.budget problem lines files in
      let fits : FitsBudget problem task.budget task.moves = rw (c.new-solver.ensures.problem, c.new-solver.ensures.budget) at c.in-Ok-Some.ensures.fits in
      let value = (rw (c.in-Ok-Some.field-0-is, c.new-solver.ensures.problem) at c.in-Ok-Some.ensures.won).0 refl in
      let first = seen_first problem task.moves c.in-Ok-Some.solved c.whole.result c.in-Ok.session (rw (c.in-Ok-Some.field-0-is, c.new-solver.ensures.problem) at c.in-Ok-Some.ensures.found) c.whole.ensures c.in-Ok.ensures.ok in
      let game = c.play_game-played in
      game_ends Says (LacksAtFirst task.moves problem) (λ (bytes : List ℕ). NeverMisses) files winner_rules problem.lines (first_match task.moves problem)
      (reports_game task.moves task.budget problem files fits value)
      _ _ game.new.player _ _ _ _ _ _ _ _ _ _ game.result c.finish.result
      (same_played winner_rules problem.lines game.result c.new-winner.result (first_match task.moves problem) game.new.player (c.new-winner.ensures ∙ first) game.ensures.plays)
      game.ensures.read_failed game.ensures.write_failed game.ensures.writes_never_fall c.finish.ensures.never_falls c.finish.ensures.ends;
}

pub returns-in-Ok-Some : goal.returns-in-Ok-Some
returns-in-Ok-Some g c = record {
  ends = λ files.
      let task = c.args.task.now in
      let Says : Lines → Report → Type 0 = λ lines. PlayReports task.moves task.budget task.problem lines files in
      let value = (rw (c.in-Ok-Some.field-0-is, c.new-solver.ensures.problem) at c.in-Ok-Some.ensures.won).0 refl in
      still Says (LacksAtFirst task.moves task.problem) (λ (bytes : List ℕ). NeverMisses) files _ c.requires.held _ _ _ _ _ _ _ (λ report. ⊥) (¬ HasNothingToPlay task.moves task.problem)
      (λ report lines none. absurd none) (λ some. record { some = some; none = refl })
      (λ none. none_mates none value, record { written = c.refuse.ensures.written; files = refl });
}

pub returns-in-Ok-None : goal.returns-in-Ok-None
returns-in-Ok-None g c = record {
  ends = λ files.
      let task = c.args.task.now in
      let Says : Lines → Report → Type 0 = λ lines. PlayReports task.moves task.budget task.problem lines files in
      let fits : FitsBudget task.problem task.budget task.moves = rw (c.new-solver.ensures.problem, c.new-solver.ensures.budget) at c.in-Ok-None.ensures.fits in
      let won = rw (c.in-Ok-None.field-0-is, c.new-solver.ensures.problem) at c.in-Ok-None.ensures.won in
      let text = c.as_slice.result.now in
      let line = c.as_slice.ensures ∙ c.verdict_line-line.ensures.not_won (λ t. cc) in
      still Says (LacksAtFirst task.moves task.problem) (λ (bytes : List ℕ). NeverMisses) files _ c.requires.held _ _ _ _ _ _ c.print.result (λ report. report ≡ done_with files text) ⊥
      (λ report lines is. inr (fits, inl (λ value. let t = won.1 value in cc, is ∙ ap (done_with files) line))) (λ none. absurd none) (c.print.ensures.ends files);
}

pub returns : goal.returns
returns g c = record {
  ends = λ files.
      let task = c.args.task.now in
      let Says : Lines → Report → Type 0 = λ lines. PlayReports task.moves task.budget task.problem lines files in
      still Says (LacksAtFirst task.moves task.problem) (λ (bytes : List ℕ). NeverMisses) files _ c.requires.held _ _ _ _ _ _ c.print_error.result _ _
      (λ report lines step. inl (step.0, rw (c.new-solver.ensures.problem, c.new-solver.ensures.budget) at (c.in-Err.ensures.step step.0 step.1), step.2))
      (λ memory. record { some = rw c.new-solver.ensures.problem at (c.in-Err.ensures.memory (ap Err memory)); none = refl }) (c.print_error.ensures.ends files);
}
