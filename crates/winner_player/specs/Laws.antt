-- The laws of the reports of games that the winner plays.
use Rattle.std.specs.Prelude.{◌≡◌, ◌⊎◌, ℕ, suc, ◌-◌, ◌<◌, ◌≤◌, List, length, map, Some, slice_get}
use Rattle.desk_base.specs.Lines.{Lines}
use Rattle.game_rules.specs.Game.{Lost, Mate, Value}
use Rattle.chess_game.specs.declared.moves.Move.{Move}
use Rattle.winning_sets.specs.Claimed.{IsValid}
use Rattle.winning_sets.specs.Solve.{Solution}
use Rattle.move_choice.specs.Squares.{all_squares}
use Rattle.play_loop.specs.LineReport.{IsReport, LineReport}
use Rattle.play_loop.specs.declared.ending.Ending.TheVariants.{Mated}
use Rattle.winner_session.specs.Game.{Game, Plays, start_of}
use Rattle.winner_player.specs.WinnerRules.{Match, first_seen, seen, winner_rules}

-- the games of a report are those of a session with some given moves
abbrev pub ReportIsPlayed : Type 0
ReportIsPlayed =
    (before : ℕ) (lines : Lines) (s : Solution) (report : LineReport Match)
    → IsReport winner_rules before lines (first_seen s) report
    → (typed : List Move) × (games : List Game) × Plays (start_of s all_squares) typed games
    × (report.games ≡ map seen games)

-- in a report that ends by mate the loser is mated
abbrev pub MatedIsMate : Type 0
MatedIsMate =
    (before : ℕ) (lines : Lines) (g : Match) (report : LineReport Match) → IsReport winner_rules before lines g report
    → report.ending ≡ Mated
    → Mate report.last.position

-- in a report of n moves the loser is mated within n - (k + 1) after the winner's move number k, counted from 0
abbrev pub ReportIsLost : Type 0
ReportIsLost =
    (before : ℕ) (lines : Lines) (s : Solution) (report : LineReport Match) → IsValid s
    → Value s.winner s.moves s.position
    → IsReport winner_rules before lines (first_seen s) report
    → (k : ℕ) (after : Match) → slice_get report.games k ≡ Some after
    → (suc k ≤ s.moves) × Lost s.winner (s.moves - suc k) after.position

-- a report that does not end by mate has fewer moves of the winner than n
abbrev pub MatedInTime : Type 0
MatedInTime =
    (before : ℕ) (lines : Lines) (s : Solution) (report : LineReport Match) → IsValid s
    → Value s.winner s.moves s.position
    → IsReport winner_rules before lines (first_seen s) report
    → (length report.games ≤ s.moves) × ((report.ending ≡ Mated) ⊎ (length report.games < s.moves))
