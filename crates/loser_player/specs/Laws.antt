-- The laws of the reports of games that the loser plays.
use Rattle.std.specs.Prelude.{◌≡◌, ℕ, ◌-◌, ◌≤◌}
use Rattle.std.specs.List.{All}
use Rattle.desk_base.specs.Lines.{Lines}
use Rattle.game_rules.specs.Game.{Mate, Value, other}
use Rattle.winning_sets.specs.Reach.{Reach}
use Rattle.winner_session.specs.Game.{made}
use Rattle.play_loop.specs.LineReport.{IsReport, LineReport}
use Rattle.loser_session.specs.Defending.{DefenceMatch, IsUnwonMatch}
use Rattle.loser_player.specs.LoserRules.{loser_rules}

-- Legal moves have led from the start of the first game to the position of the second. The winner has made at most as
-- many moves as he had, does not mate from there within the moves left, and the loser is not mated.
pub record IsSavedGame (first after : DefenceMatch) : Type 0 where
  pub reached : Reach first.start after.ply after.position
  pub within : made first.winner first.start.turn after.ply ≤ first.moves
  pub not_won : Value first.winner (first.moves - made first.winner first.start.turn after.ply) after.position → ⊥
  pub not_mated : (after.position.turn ≡ other first.winner) × Mate after.position → ⊥

-- this is true after each move of the loser in a report, and at the end
pub record IsSavedReport (first : DefenceMatch) (report : LineReport DefenceMatch) : Type 0 where
  pub each : All (IsSavedGame first) report.games
  pub last : IsSavedGame first report.last

-- this is true of each report of a game in which the winner does not mate in time, whatever the lines are
abbrev pub ReportIsSaved : Type 0
ReportIsSaved =
    (before : ℕ) (lines : Lines) (g : DefenceMatch) (report : LineReport DefenceMatch) → IsUnwonMatch g
    → IsReport loser_rules before lines g report
    → IsSavedReport g report
