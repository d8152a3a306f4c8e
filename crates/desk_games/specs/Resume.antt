-- The report of `resume`.
use Rattle.std.specs.Prelude.{◌≡◌, ℕ, List, []}
use Rattle.desk_base.specs.Files.{Files}
use Rattle.desk_base.specs.Lent.{Lent, all_new, all_old, both_new, both_old, old_of}
use Rattle.desk_base.specs.Lines.{Lines}
use Rattle.desk_base.specs.declared.files.Shelf.{Ghosts as ShelfModel}
use Rattle.desk_base.specs.declared.sink.Sink.{Ghosts as SinkModel}
use Rattle.desk_base.specs.declared.source.Source.{Ghosts as SourceModel}
use Rattle.winner_player.specs.WinnerRules.{ByClaim, Match, winner_rules}
use Rattle.play_loop.specs.LineReport.{IsReport, LineReport}
use Rattle.mate_plan.specs.Claim.{Claim}
use Rattle.move_choice.specs.Squares.{all_squares}
use Rattle.winning_sets.specs.Claimed.{claim_of}
use Rattle.winning_sets.specs.Solve.{Solution}
use Rattle.desk_files.specs.FileClaim.{MissesFetch, OfChecked, OnFiles}
use Rattle.desk_report.specs.Outcome.{NeverMisses, Report, Seen}
use Rattle.desk_report.specs.ByLines.{EndsByLines}
use Rattle.desk_report.specs.Ports.{ports_seen, streams_seen}
use Rattle.desk_text.specs.declared.problem.FileTask.{FileTask}
use Rattle.desk_games.specs.Play.{as_played}
use Rattle.desk_report.specs.declared.status.Status.{Status}

-- the game of a claim before the first move
abbrev pub claimed_match : Claim → Match
claimed_match c =
    record {
      winner = c.winner;
      start = c.position;
      moves = c.moves;
      strategy = ByClaim c;
      frame = all_squares;
      position = c.position;
      ply = 0;
    }

-- the game that is played by a claim with these lines
abbrev pub GameReports : Lines → Files → Claim → Report → Type 0
GameReports lines files c report =
    (played : LineReport Match) × IsReport winner_rules 0 lines (claimed_match c) played × (report ≡ as_played files played)

-- the game by the claim of the file of the name, or the first reason why there is none
abbrev pub ResumeReports : (budget : ℕ) → Lines → (name : List ℕ) → Files → Report → Type 0
ResumeReports budget lines name files = OfChecked (GameReports lines files) budget name files

-- when memory may run out: nothing has been read
abbrev pub LacksBefore : (bytes : List ℕ) → Type 0
LacksBefore bytes = bytes ≡ []

-- how `resume` ends; nothing of its input was taken before, and at the end it holds `pending`
abbrev pub ResumeEnds : (budget : ℕ) → (name : List ℕ) → Files → Status → (pending : List ℕ) → Seen → Seen → Type 0
ResumeEnds budget name files status pending old new =
    EndsByLines (λ lines. ResumeReports budget lines name files) LacksBefore MissesFetch status [] pending old new

-- how it ends with a source, a sink and a shelf
abbrev pub ResumeEndsOn : {S K H : Type 0} → SourceModel S → SinkModel K → ShelfModel H → FileTask → Status
    → (ports : Lent S × Lent K × Lent H) → Type 0
ResumeEndsOn s k h file status ports =
    OnFiles (h.files (old_of ports.2))
    (λ files. (pending : List ℕ)
    × ResumeEnds file.budget file.name.now files status pending (ports_seen s k h (all_old ports))
    (ports_seen s k h (all_new ports)))

-- how the game of a claim ends with a source and a sink, for any files
abbrev pub GameEndsOn : {S K : Type 0} → SourceModel S → SinkModel K → Solution → Status → (ports : Lent S × Lent K)
    → Type 0
GameEndsOn s k solved status ports =
    (files : Files)
    → (pending : List ℕ)
    × EndsByLines (λ lines. GameReports lines files (claim_of solved)) LacksBefore (λ bytes. NeverMisses) status []
    pending (streams_seen s k files (both_old ports)) (streams_seen s k files (both_new ports))
