-- The report of `defend`, and how it ends.
use Rattle.std.specs.Prelude.{◌≡◌, ◌⊎◌, ℕ, List}
use Rattle.desk_base.specs.Files.{Files}
use Rattle.desk_base.specs.Lent.{Lent, new_of, old_of}
use Rattle.desk_base.specs.Lines.{Lines}
use Rattle.desk_base.specs.Reading.{Reading}
use Rattle.desk_base.specs.declared.sink.Sink.{Ghosts as SinkModel}
use Rattle.desk_base.specs.declared.source.Source.{Ghosts as SourceModel}
use Rattle.game_rules.specs.Game.{Value}
use Rattle.move_choice.specs.Squares.{all_squares}
use Rattle.play_loop.specs.LineReport.{IsReport, LineReport}
use Rattle.loser_session.specs.Defending.{DefenceMatch}
use Rattle.loser_player.specs.LoserRules.{loser_rules}
use Rattle.desk_report.specs.ByLines.{EndsByLines}
use Rattle.desk_report.specs.Outcome.{NeverMisses, Report, Seen, done_with}
use Rattle.desk_report.specs.Ports.{streams_seen}
use Rattle.desk_verdict.specs.Verdict.{WithinBudget, mate_line}
use Rattle.desk_text.specs.declared.problem.Problem.{Problem}
use Rattle.desk_text.specs.declared.problem.Task.{Task}
use Rattle.desk_report.specs.declared.status.Status.{Status}
use Rattle.desk_games.specs.Play.{as_played}
use Rattle.desk_games.specs.Resume.{LacksBefore}

-- the game of a problem that the loser plays, before the first move
abbrev pub first_defence : ℕ → Problem → DefenceMatch
first_defence n problem =
    record {
      winner = problem.winner;
      start = problem.position;
      moves = n;
      frame = all_squares;
      position = problem.position;
      ply = 0;
    }

-- if the winner mates within n moves of his own, that he does; otherwise the game with the lines after the text
abbrev pub DefendedReports : ℕ → Problem → Lines → Files → Report → Type 0
DefendedReports n problem lines files report =
    (Value problem.winner n problem.position × (report ≡ done_with files (mate_line n)))
    ⊎ ((Value problem.winner n problem.position → ⊥)
    × ((played : LineReport DefenceMatch) × IsReport loser_rules problem.lines lines (first_defence n problem) played
    × (report ≡ as_played files played)))

-- the same, or the first step that exceeds the budget
abbrev pub DefendReports : ℕ → ℕ → Problem → Lines → Files → Report → Type 0
DefendReports n budget problem lines files = WithinBudget n budget problem (DefendedReports n problem lines files) files

-- how `defend` ends
abbrev pub DefendEnds : (n budget : ℕ) → Problem → Files → Status → (held pending : List ℕ) → Seen → Seen → Type 0
DefendEnds n budget problem files status held pending old new =
    EndsByLines (λ lines. DefendReports n budget problem lines files) LacksBefore (λ bytes. NeverMisses) status held
    pending old new

-- how it ends with a reader, a source and a sink, for any files
abbrev pub DefendEndsOn : {S K : Type 0} → SourceModel S → SinkModel K → Task → Status
    → (ports : Lent Reading × Lent S × Lent K) → Type 0
DefendEndsOn s k task status ports =
    (files : Files)
    → DefendEnds task.moves task.budget task.problem files status (old_of ports.0).pending (new_of ports.0).pending
    (streams_seen s k files (old_of ports.1, old_of ports.2)) (streams_seen s k files (new_of ports.1, new_of ports.2))
