-- The report of a text, from the report of the problem in it.
use Rattle.std.specs.Prelude.{◌≡◌, ◌⊎◌, ℕ, ◌≤◌, List, ◌++◌, length, false}
use Rattle.desk_base.specs.Files.{Files}
use Rattle.desk_base.specs.Lines.{Lines, ended, lines_of}
use Rattle.game_rules.specs.Game.{Position, SoundWithKings}
use Rattle.chess_game.specs.Unsoundness.{IsFirstUnsoundness}
use Rattle.chess_game.specs.declared.unsoundness.Unsound.{Unsound}
use Rattle.desk_report.specs.FaultLines.{unsound_line}
use Rattle.desk_report.specs.Outcome.{Report, refusal_as}
use Rattle.desk_report.specs.declared.status.Status.TheVariants as is
use Rattle.desk_text.specs.Text.{IsTextOf, Reading, Text, is_end, refusal_line, refused, whole}
use Rattle.desk_text.specs.declared.problem.Problem.{Problem}

-- the report of a position is that it is not sound, or it is as `reports` says
abbrev pub OfSound : (Report → Type 0) → Files → Position → Report → Type 0
OfSound reports files p report =
    ((why : Unsound) × IsFirstUnsoundness p why × (report ≡ refusal_as files is.Unsound (unsound_line why) false))
    ⊎ (SoundWithKings p × reports report)

-- the report of a text is that it is refused, or it is as `reports` says of its problem, if that is sound, and of the
-- lines after it
abbrev pub OfRead : (Problem → Lines → Report → Type 0) → Files → Text Problem → Report → Type 0
OfRead reports files (refused number why) report =
    report ≡ refusal_as files is.Text (refusal_line number why) (is_end why)
OfRead reports files (whole problem rest) report = OfSound (reports problem rest) files problem.position report

-- the report of the text at the front of the lines, read in this way
abbrev pub OfLines : Reading Problem → (Problem → Lines → Report → Type 0) → Files → Lines → Report → Type 0
OfLines r reports files lines report = (text : Text Problem) × IsTextOf r lines text × OfRead reports files text report

-- The bytes taken are the text of a sound position with this property, read in this way, and at most 256 bytes after
-- it.
pub record IsBehindTextOf (r : Reading Problem) (Holds : Problem → Type 0) (taken : List ℕ) : Type 0 where
  pub problem : Problem
  pub sound : SoundWithKings problem.position
  pub holds : Holds problem
  pub front : List ℕ
  pub pending : List ℕ
  pub text : IsTextOf r (lines_of front) (whole problem ended)
  pub bytes : taken ≡ front ++ pending
  pub few : length pending ≤ 256
