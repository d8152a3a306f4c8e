-- What is reported of a game is one report.
use Rattle.std.proofs.Common.{◌≢◌, ℕ, List, ap}
use Rattle.desk_base.specs.Files.{Files}
use Rattle.desk_base.specs.Lines.{Lines}
use Rattle.game_rules.specs.Game.{Value}
use Rattle.winner_player.specs.Playable.{winner_playable}
use Rattle.winner_player.specs.WinnerRules.{IsOfSession, winner_rules}
use Rattle.play_loop.proofs.Reports.{one_report}
use Rattle.play_loop.specs.LineReport.{IsReport}
use Rattle.play_loop.specs.Turns.{ArePlayable, Rules}
use Rattle.play_loop.specs.declared.ending.Ending.{Ending}
use Rattle.play_loop.specs.declared.ending.Ending.TheVariants.{Mated, Held, Stuck, Wide, Quit, NoLine, Many, CutAt, LongAt}
use Rattle.loser_player.specs.LoserRules.{IsOfDefence, loser_rules}
use Rattle.loser_player.specs.Playable.{loser_plays}
use Rattle.desk_report.specs.Outcome.{done_with}
use Rattle.desk_report.specs.declared.status.Status.TheVariants as is
use Rattle.desk_report.proofs.One.{IsDueOf, IsOne, and_row, due_of_row, due_row, either_row}
use Rattle.desk_text.specs.declared.problem.Problem.{Problem}
use Rattle.desk_verdict.specs.Verdict.{mate_line, no_mate_line}
use Rattle.desk_verdict.proofs.Rows.{within_row}
use Rattle.desk_games.specs.Defend.{DefendReports, first_defence}
use Rattle.desk_games.specs.Play.{PlayReports, as_played, first_match, status_of}
use Rattle.desk_games.specs.Resume.{ResumeReports, GameReports, claimed_match}
use Rattle.desk_files.proofs.Rows.{checked_row}

ending_status : (ending : Ending) → status_of ending ≢ is.Usage
ending_status Mated e = absurd (cc)
ending_status Held e = absurd (cc)
ending_status Stuck e = absurd (cc)
ending_status Wide e = absurd (cc)
ending_status Quit e = absurd (cc)
ending_status NoLine e = absurd (cc)
ending_status Many e = absurd (cc)
ending_status (CutAt number) e = absurd (cc)
ending_status (LongAt number) e = absurd (cc)

-- a game
pub game_row : {G : Type 0} (rules : Rules G) (Kept : G → Type 0) → ArePlayable rules Kept → (before : ℕ) (lines : Lines) (first : G) (files : Files)
    → IsOne (IsDueOf (IsReport rules before lines first) (as_played files))
game_row rules Kept can before lines first files =
    due_of_row (IsReport rules before lines first) (as_played files) (λ played. ending_status played.ending)
    (λ g h a b. ap (as_played files) (one_report rules Kept can before lines first g h a b))

pub play_row : (n budget : ℕ) (problem : Problem) (lines : Lines) (files : Files) → IsOne (PlayReports n budget problem lines files)
play_row n budget problem lines files =
    let value : Type 0 = Value problem.winner n problem.position in
    within_row n budget problem files
    (either_row (and_row (value → ⊥) (due_row (done_with files (no_mate_line n)) (λ e. absurd (cc))))
    (and_row value (game_row winner_rules IsOfSession winner_playable problem.lines lines (first_match n problem) files)) (λ r s none some. none.0 some.0))

pub defend_row : (n budget : ℕ) (problem : Problem) (lines : Lines) (files : Files) → IsOne (DefendReports n budget problem lines files)
defend_row n budget problem lines files =
    let value : Type 0 = Value problem.winner n problem.position in
    within_row n budget problem files
    (either_row (and_row value (due_row (done_with files (mate_line n)) (λ e. absurd (cc))))
    (and_row (value → ⊥) (game_row loser_rules IsOfDefence loser_plays problem.lines lines (first_defence n problem) files)) (λ r s some none. none.0 some.0))

pub resume_row : (budget : ℕ) (lines : Lines) (name : List ℕ) (files : Files) → IsOne (ResumeReports budget lines name files)
resume_row budget lines name files = checked_row (GameReports lines files) budget files (λ c. game_row winner_rules IsOfSession winner_playable 0 lines (claimed_match c) files) name
