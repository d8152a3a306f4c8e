-- The report of `migrate`, and how it ends.
use Rattle.std.specs.Prelude.{◌≡◌, ◌⊎◌, ℕ, ◌≤◌, List, length, Option, None, Ok, codes}
use Rattle.desk_base.specs.Files.{Files}
use Rattle.desk_base.specs.Lent.{Lent, both_new, both_old, old_of}
use Rattle.desk_base.specs.declared.files.Shelf.{Ghosts as ShelfModel}
use Rattle.desk_base.specs.declared.sink.Sink.{Ghosts as SinkModel}
use Rattle.mate_plan.specs.Claim.{Claim}
use Rattle.strategy_file.specs.Claims.{claim_with}
use Rattle.strategy_writer.specs.Laws.{IsReadAsSame}
use Rattle.strategy_writer.specs.ReducedClaims.{IsWrittenOf, IsWrittenTooLarge}
use Rattle.strategy_file.specs.StrategyFile.{Charts}
use Rattle.strategy_writer.specs.Written.{most_bytes}
use Rattle.desk_report.specs.Outcome.{RunEndsAs, Report}
use Rattle.desk_report.specs.Ports.{shelf_seen}
use Rattle.desk_report.specs.declared.status.Status.{Status}
use Rattle.desk_files.specs.FileClaim.{IsReadAs, OfFile, OnFiles}
use Rattle.desk_files.specs.Keeping.{FileReports, FileToKeep, IsThere, MissesKeep}

-- the bytes are the file of version 2 of the claim, not too many, and are read as a claim of the same sets
pub record IsMigrated (c : Claim) (bytes : List ℕ) : Type 0 where
  pub file : IsWrittenOf c bytes
  pub small : length bytes ≤ most_bytes
  pub same : IsReadAsSame c bytes

abbrev pub migrated_file : Claim → FileToKeep
migrated_file c =
    record {
      is_file = IsMigrated c;
      is_too_large = IsWrittenTooLarge c;
      has_large_set = λ states. ⊥;
      line = codes "migrated\n";
    }

-- the claim of the file `from` is stored under the name `to`, which may be the same, or the first reason why not
abbrev pub MigrateReports : (from to : List ℕ) → Files → Report → Type 0
MigrateReports from to files = OfFile (λ c. FileReports (migrated_file c) to files) from files

-- the file of the name has a claim, and there is a file of it to store
pub record HasFileToMigrate (from : List ℕ) (files : Files) : Type 0 where
  pub charts : Charts
  pub read : IsReadAs from files (Ok charts)
  pub file : IsThere (migrated_file (claim_with charts))

-- when the shelf may fail: while it fetches the first file, or while it stores the second
abbrev pub MissesMigrate : (from to : List ℕ) → Files → (keeping : Option (List ℕ)) → Type 0
MissesMigrate from to files keeping = (keeping ≡ None) ⊎ MissesKeep to (HasFileToMigrate from files) keeping

-- how it ends with a sink and a shelf
abbrev pub MigrateEndsOn : {K H : Type 0} → SinkModel K → ShelfModel H → (from to : List ℕ) → Status
    → (ports : Lent K × Lent H) → Type 0
MigrateEndsOn k h from to status ports =
    OnFiles (h.files (old_of ports.1))
    (λ files.
    RunEndsAs status (MigrateReports from to files) (Unit {0}) (MissesMigrate from to files)
    (shelf_seen k h (both_old ports)) (shelf_seen k h (both_new ports)))
