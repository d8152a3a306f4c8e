use Rattle.std.proofs.Common.{ℕ, List, [], refl, arith, ◌∙◌}
use Rattle.desk_base.specs.Lines.{Lines}
use Rattle.winner_player.specs.WinnerRules.{winner_rules}
use Rattle.winning_sets.specs.Claimed.{claim_of}
use Rattle.desk_report.specs.Outcome.{NeverMisses, Report}
use Rattle.desk_games.specs.Resume.{GameReports, LacksBefore, claimed_match}
use Rattle.desk_games.proofs.Playing.{game_ends, same_played, seen_claimed, still}
use Rattle.desk_games.proofs.resume.play_on.Goals as goal

pub returns-in-Ok : goal.returns-in-Ok
returns-in-Ok g c = record {
  ends = λ files.
      let s = c.args.solved in
      let game = c.play_game-played in
      let Says : Lines → Report → Type 0 = λ lines. GameReports lines files (claim_of s) in
      let first = seen_claimed s c.whole.result c.in-Ok.session c.requires.origin c.whole.ensures c.in-Ok.ensures.ok in (
        game.new.reader.pending,
        game_ends Says LacksBefore (λ (bytes : List ℕ). NeverMisses) files winner_rules 0 (claimed_match (claim_of s)) (λ lines played right. (played, right, refl))
            [] _ game.new.player _ _ _ _ _ _ _ _ _ _ game.result c.finish.result
            (same_played winner_rules 0 game.result c.new-winner.result (claimed_match (claim_of s)) game.new.player (c.new-winner.ensures ∙ first) (rw c.new-reader.ensures at game.ensures.plays))
            game.ensures.read_failed game.ensures.write_failed game.ensures.writes_never_fall c.finish.ensures.never_falls c.finish.ensures.ends,
      );
}

pub returns : goal.returns
returns g c = record {
  ends = λ files.
      let Says : Lines → Report → Type 0 = λ lines. GameReports lines files (claim_of c.args.solved) in (
        [],
        still Says LacksBefore (λ (bytes : List ℕ). NeverMisses) files [] (omega arith) _ _ _ _ _ _ _ (λ report. ⊥) (Unit {0})
            (λ report lines none. absurd none) (λ some. refl) (tt, record { written = c.refuse.ensures.written; files = refl }),
      );
}
