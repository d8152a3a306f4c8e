use Rattle.std.proofs.Common.{◌≡◌, ℕ, List, true, false, inl, inr, refl, ap, subst, ◌∙◌}
use Rattle.desk_base.specs.Lines.{Lines}
use Rattle.game_rules.specs.Game.{Value}
use Rattle.mate_plan.specs.PlanOf.{plan_of}
use Rattle.winning_sets.specs.Solve.{IsSolveError}
use Rattle.winning_sets.specs.declared.names.SolveError.{SolveError}
use Rattle.loser_player.specs.LoserRules.{loser_rules}
use Rattle.desk_report.specs.Outcome.{NeverMisses, Report, done_with}
use Rattle.desk_verdict.specs.Verdict.{mate_line}
use Rattle.desk_verdict.proofs.Values.{won_as}
use Rattle.desk_games.specs.Defend.{DefendReports, first_defence}
use Rattle.desk_games.specs.Resume.{LacksBefore}
use Rattle.desk_games.proofs.Defended.{fits_defence, reports_defence, seen_defence}
use Rattle.desk_games.proofs.Playing.{game_ends, same_played, still}
use Rattle.desk_games.proofs.defend.defend.Goals as goal

pub begin-requires-clause-fits : goal.begin-requires-clause-fits
begin-requires-clause-fits g c =
    let task = c.args.task.now in
    fits_defence task.problem task.budget task.moves c.in-Ok.solved c.in-Ok.ensures.game c.verdict.ensures.valid c.in-Ok.ensures.within

pub returns-in-Err : goal.returns-in-Err
returns-in-Err g c = record {
  ends = λ files.
      let task = c.args.task.now in
      let problem = task.problem in
      let Says : Lines → Report → Type 0 = λ lines. DefendReports task.moves task.budget problem lines files in
      let Over : SolveError → Type 0 = λ error. IsSolveError (plan_of problem.winner problem.position task.moves) task.moves task.budget error in
      still Says LacksBefore (λ (bytes : List ℕ). NeverMisses) files _ c.requires.held _ _ _ _ _ _ c.print_error.result _ _
      (λ report lines step. inl (step.0, subst Over step.1 c.in-Err.ensures.error, step.2)) (λ memory. refl) (c.print_error.ensures.ends files);
}

pub returns-then-verdict : goal.returns-then-verdict
returns-then-verdict g c = record {
  ends = λ files.
      let task = c.args.task.now in
      let problem = task.problem in
      let Says : Lines → Report → Type 0 = λ lines. DefendReports task.moves task.budget problem lines files in
      let value = (won_as problem problem.position problem.winner task.moves c.in-Ok.solved c.verdict.result true refl refl c.in-Ok.ensures.game c.verdict.ensures.mates c.if-verdict.true).0 refl in
      let text = c.as_slice.result.now in
      let line : text ≡ mate_line task.moves = c.as_slice.ensures ∙ c.verdict_line-line.ensures.won refl in
      still Says LacksBefore (λ (bytes : List ℕ). NeverMisses) files _ c.requires.held _ _ _ _ _ _ c.print.result (λ report. report ≡ done_with files text) ⊥
      (λ report lines is. inr (c.in-Ok.ensures.within, inl (value, is ∙ ap (done_with files) line))) (λ none. absurd none) (c.print.ensures.ends files);
}

pub returns-in-Ok-begin : goal.returns-in-Ok-begin
returns-in-Ok-begin g c = record {
  ends = λ files.
      let task = c.args.task.now in
      let problem = task.problem in
      let Says : Lines → Report → Type 0 = λ lines. DefendReports task.moves task.budget problem lines files in
      let won = won_as problem problem.position problem.winner task.moves c.in-Ok.solved c.verdict.result false refl refl c.in-Ok.ensures.game c.verdict.ensures.mates c.if-verdict.false in
      let none : Value problem.winner task.moves problem.position → ⊥ = λ value. let t = won.1 value in cc in
      let first = c.new-loser.ensures ∙ seen_defence problem task.moves c.in-Ok.solved c.whole.result c.in-Ok-begin.defence c.in-Ok.ensures.game c.whole.ensures c.in-Ok-begin.ensures.ok in
      let game = c.play_game-played in
      game_ends Says LacksBefore (λ (bytes : List ℕ). NeverMisses) files loser_rules problem.lines (first_defence task.moves problem)
      (reports_defence task.moves task.budget problem files c.in-Ok.ensures.within none)
      _ _ game.new.player _ _ _ _ _ _ _ _ _ _ game.result c.finish.result
      (same_played loser_rules problem.lines game.result c.new-loser.result (first_defence task.moves problem) game.new.player first game.ensures.plays)
      game.ensures.read_failed game.ensures.write_failed game.ensures.writes_never_fall c.finish.ensures.never_falls c.finish.ensures.ends;
}

pub returns : goal.returns
returns g c = record {
  ends = λ files.
      let task = c.args.task.now in
      let Says : Lines → Report → Type 0 = λ lines. DefendReports task.moves task.budget task.problem lines files in
      still Says LacksBefore (λ (bytes : List ℕ). NeverMisses) files _ c.requires.held _ _ _ _ _ _ _ (λ report. ⊥) (Unit {0})
      (λ report lines none. absurd none) (λ some. refl) (tt, record { written = c.refuse.ensures.written; files = refl });
}
