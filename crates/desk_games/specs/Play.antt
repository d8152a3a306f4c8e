-- The report of `play`, and how it ends.
use Rattle.std.specs.Prelude.{◌≡◌, ◌⊎◌, ℕ, List, [], Option, Result, Ok, Err, codes}
use Rattle.desk_base.specs.Files.{Files}
use Rattle.desk_base.specs.Lent.{Lent, new_of, old_of}
use Rattle.desk_base.specs.Lines.{Lines}
use Rattle.desk_base.specs.Reading.{Reading}
use Rattle.desk_base.specs.declared.sink.Sink.{Ghosts as SinkModel}
use Rattle.desk_base.specs.declared.source.Source.{Ghosts as SourceModel}
use Rattle.game_rules.specs.Game.{Value}
use Rattle.winner_player.specs.WinnerRules.{ByKept, Match, winner_rules}
use Rattle.play_loop.specs.LineReport.{IsReport, LineReport, ending_line}
use Rattle.play_loop.specs.Played.{is_short}
use Rattle.play_loop.specs.declared.ending.Ending.{Ending}
use Rattle.play_loop.specs.declared.ending.Ending.TheVariants.{Mated, Held, Stuck, Wide, Quit, NoLine, Many, CutAt, LongAt}
use Rattle.play_loop.specs.declared.play.GameError.{GameError}
use Rattle.play_loop.specs.declared.play.GameError.TheVariants.{Read, Write}
use Rattle.move_choice.specs.Squares.{all_squares}
use Rattle.desk_report.specs.ByLines.{EndsByLines}
use Rattle.desk_report.specs.Outcome.{NeverMisses, Report, Seen, Writes, done_with}
use Rattle.desk_report.specs.Ports.{streams_seen}
use Rattle.desk_verdict.specs.Verdict.{HasNothingToPlay, WithinBudget, no_mate_line}
use Rattle.desk_text.specs.declared.problem.Problem.{Problem}
use Rattle.desk_text.specs.declared.problem.Task.{Task}
use Rattle.desk_report.specs.declared.status.Status.{Status}
use Rattle.desk_report.specs.declared.status.Status.TheVariants as is

-- the game of a problem before the first move
abbrev pub first_match : ℕ → Problem → Match
first_match n problem =
    record {
      winner = problem.winner;
      start = problem.position;
      moves = n;
      strategy = ByKept;
      frame = all_squares;
      position = problem.position;
      ply = 0;
    }

-- the status of a run whose game ends in this way
abbrev pub status_of : Ending → Status
status_of Mated = is.Done
status_of Held = is.Done
status_of Stuck = is.Done
status_of Wide = is.Wide
status_of Quit = is.Ended
status_of NoLine = is.Ended
status_of Many = is.TooMany
status_of (CutAt number) = is.Text
status_of (LongAt number) = is.Text

-- a run that reports a game and leaves these files
abbrev pub as_played : {G : Type 0} → Files → LineReport G → Report
as_played files played =
    record {
      status = status_of played.ending;
      text = played.text;
      fault = ending_line played.ending;
      short = is_short played.ending;
      files = files;
    }

-- if the winner mates within n moves of his own, the game with the lines after the text; otherwise that he does not
abbrev pub PlayedReports : ℕ → Problem → Lines → Files → Report → Type 0
PlayedReports n problem lines files report =
    ((Value problem.winner n problem.position → ⊥) × (report ≡ done_with files (no_mate_line n)))
    ⊎ (Value problem.winner n problem.position
    × ((played : LineReport Match) × IsReport winner_rules problem.lines lines (first_match n problem) played
    × (report ≡ as_played files played)))

-- the same, or the first step that exceeds the budget
abbrev pub PlayReports : ℕ → ℕ → Problem → Lines → Files → Report → Type 0
PlayReports n budget problem lines files = WithinBudget n budget problem (PlayedReports n problem lines files) files

-- when memory may run out: there is something to compute, and no reply has been read
pub record LacksAtFirst (n : ℕ) (problem : Problem) (bytes : List ℕ) : Type 0 where
  pub some : ¬ HasNothingToPlay n problem
  pub none : bytes ≡ []

-- how `play` ends
abbrev pub PlayEnds : (n budget : ℕ) → Problem → Files → Status → (held pending : List ℕ) → Seen → Seen → Type 0
PlayEnds n budget problem files status held pending old new =
    EndsByLines (λ lines. PlayReports n budget problem lines files) (LacksAtFirst n problem) (λ bytes. NeverMisses)
    status held pending old new

-- how it ends with a reader, a source and a sink, for any files
abbrev pub PlayEndsOn : {S K : Type 0} → SourceModel S → SinkModel K → Task → Status
    → (ports : Lent Reading × Lent S × Lent K) → Type 0
PlayEndsOn s k task status ports =
    (files : Files)
    → PlayEnds task.moves task.budget task.problem files status (old_of ports.0).pending (new_of ports.0).pending
    (streams_seen s k files (old_of ports.1, old_of ports.2)) (streams_seen s k files (new_of ports.1, new_of ports.2))

-- the text written after a game, and the status then
abbrev pub Finishes : Result Ending GameError → Status → (old new : Option (List ℕ)) → (failed : Type 0) → Type 0
Finishes (Ok ending) status old new failed = (status ≡ status_of ending) × Writes [] (ending_line ending) old new failed
Finishes (Err Read) status old new failed = (status ≡ is.ReadFault) × Writes [] (codes "read fault\n") old new failed
Finishes (Err Write) status old new failed = (status ≡ is.WriteFault) × (new ≡ old)
