-- The report of `check`, and how it ends.
use Rattle.std.specs.Prelude.{◌≡◌, ℕ, List, []}
use Rattle.desk_base.specs.Files.{Files}
use Rattle.desk_base.specs.Lent.{Lent, both_new, both_old, old_of}
use Rattle.desk_base.specs.declared.files.Shelf.{Ghosts as ShelfModel}
use Rattle.desk_base.specs.declared.sink.Sink.{Ghosts as SinkModel}
use Rattle.desk_files.specs.FileClaim.{MissesFetch, OfChecked, OnFiles}
use Rattle.desk_report.specs.Outcome.{RunEndsAs, Report, done_with}
use Rattle.desk_report.specs.Ports.{shelf_seen}
use Rattle.desk_report.specs.declared.status.Status.{Status}
use Rattle.desk_verdict.specs.Verdict.{mate_line}
use Rattle.desk_text.specs.declared.problem.FileTask.{FileTask}

-- within how many moves the claim of the file mates, or the first reason why there is none
abbrev pub CheckReports : (budget : ℕ) → (name : List ℕ) → Files → Report → Type 0
CheckReports budget name files = OfChecked (λ c report. report ≡ done_with files (mate_line c.moves)) budget name files

-- how it ends with a sink and a shelf
abbrev pub CheckEndsOn : {K H : Type 0} → SinkModel K → ShelfModel H → FileTask → Status
    → (ports : Lent K × Lent H) → Type 0
CheckEndsOn k h file status ports =
    OnFiles (h.files (old_of ports.1))
    (λ files.
    RunEndsAs status (CheckReports file.budget file.name.now files) (Unit {0}) (MissesFetch [])
    (shelf_seen k h (both_old ports)) (shelf_seen k h (both_new ports)))
