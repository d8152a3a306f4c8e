-- The report of `keep`.
use Rattle.std.specs.Prelude.{◌≡◌, ◌⊎◌, ℕ, ◌≤◌, List, length, IfSome}
use Rattle.desk_base.specs.Files.{Files}
use Rattle.desk_base.specs.Lent.{Lent, both_new, both_old, old_of}
use Rattle.desk_base.specs.declared.files.Shelf.{Ghosts as ShelfModel}
use Rattle.desk_base.specs.declared.sink.Sink.{Ghosts as SinkModel}
use Rattle.game_rules.specs.Game.{Position, Value}
use Rattle.game_rules.specs.declared.men.Side.{Side}
use Rattle.strategy_writer.specs.KeptFile.{HasLargeKeptSet, IsKeptFile, IsKeptTooLarge}
use Rattle.strategy_writer.specs.Written.{most_bytes}
use Rattle.strategy_file.specs.declared.version.Version.TheVariants.{Shared}
use Rattle.desk_report.specs.Outcome.{RunEndsAs, Report, done_with}
use Rattle.desk_report.specs.Ports.{shelf_seen}
use Rattle.desk_verdict.specs.Verdict.{FitsBudget, HasSomeToPlay, WithinBudget, mate_line, no_mate_line}
use Rattle.desk_files.specs.Keeping.{FileReports, FileToKeep, MissesKeep}
use Rattle.desk_text.specs.declared.problem.Problem.{Problem}
use Rattle.desk_text.specs.declared.problem.Task.{Task}
use Rattle.desk_report.specs.declared.status.Status.{Status}

-- the bytes are the file of version 2 of the kept sets, and not too many
pub record IsFileToKeep (winner : Side) (p : Position) (n : ℕ) (bytes : List ℕ) : Type 0 where
  pub file : IsKeptFile Shared winner p n bytes
  pub small : length bytes ≤ most_bytes

abbrev pub kept_file : Side → Position → ℕ → FileToKeep
kept_file winner p n =
    record {
      is_file = IsFileToKeep winner p n;
      is_too_large = IsKeptTooLarge Shared winner p n;
      has_large_set = HasLargeKeptSet winner p n;
      line = mate_line n;
    }

-- this if the winner mates within n moves of his own; otherwise that he does not, and no file is stored
abbrev pub KeptReports : (n : ℕ) → Problem → (name : List ℕ) → Files → Report → Type 0
KeptReports n problem name files report =
    ((Value problem.winner n problem.position → ⊥) × (report ≡ done_with files (no_mate_line n)))
    ⊎ (Value problem.winner n problem.position
    × FileReports (kept_file problem.winner problem.position n) name files report)

-- the same, or the first step that exceeds the budget
abbrev pub KeepReports : (n budget : ℕ) → Problem → (name : List ℕ) → Files → Report → Type 0
KeepReports n budget problem name files = WithinBudget n budget problem (KeptReports n problem name files) files

-- There is a file to store: the plan is within the budget, the winner mates within n moves of his own, and the file is
-- not too large.
pub record HasFileToKeep (n budget : ℕ) (problem : Problem) : Type 0 where
  pub fits : FitsBudget problem budget n
  pub value : Value problem.winner n problem.position
  pub bytes : List ℕ
  pub file : IsFileToKeep problem.winner problem.position n bytes

-- How `keep` ends with a sink and a shelf, for any files, which are the shelf's if it exposes them.
abbrev pub KeepEndsOn : {K H : Type 0} → SinkModel K → ShelfModel H → Task → (name : List ℕ) → Status
    → (ports : Lent K × Lent H) → Type 0
KeepEndsOn k h task name status ports =
    (files : Files) → IfSome (h.files (old_of ports.1)) (λ told. told ≡ files)
    → RunEndsAs status (KeepReports task.moves task.budget task.problem name files) (HasSomeToPlay task)
    (MissesKeep name (HasFileToKeep task.moves task.budget task.problem)) (shelf_seen k h (both_old ports))
    (shelf_seen k h (both_new ports))
