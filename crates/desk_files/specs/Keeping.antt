-- The result of storing a file under a name.
use Rattle.std.specs.Prelude.{◌≡◌, ◌⊎◌, ℕ, List, Option, Some, Result, Ok, Err, codes}
use Rattle.std.specs.FinMap as map
use Rattle.desk_base.specs.Files.{Files, FilesGain, FilesStay, OtherFilesStay}
use Rattle.desk_base.specs.declared.files.KeepError.{KeepError}
use Rattle.desk_base.specs.declared.files.KeepError.TheVariants as keep_error
use Rattle.strategy_writer.specs.declared.writing.WriteFileError.{WriteFileError}
use Rattle.strategy_writer.specs.declared.writing.WriteFileError.TheVariants as write_error
use Rattle.desk_report.specs.Outcome.{Report, done_with}
use Rattle.desk_report.specs.declared.status.Status.{Status}
use Rattle.desk_report.specs.declared.status.Status.TheVariants as is
use Rattle.desk_files.specs.FileLines.{file_refused, set_too_large_line, too_large_line}
use Rattle.desk_files.specs.declared.no_file.NoFile.{NoFile}
use Rattle.desk_files.specs.declared.no_file.NoFile.TheVariants.{TooLarge, SetTooLarge, Fault, Memory}

-- A file to store: its bytes, the size that would be too large, the number of states of its largest set if that is too
-- large, and the line that says that it is stored.
pub record FileToKeep : Type 1 where
  pub is_file : List ℕ → Type 0
  pub is_too_large : ℕ → Type 0
  pub has_large_set : ℕ → Type 0
  pub line : List ℕ

-- there is a file that is not too large
abbrev pub IsThere : FileToKeep → Type 0
IsThere file = (bytes : List ℕ) × file.is_file bytes

-- the file is stored under the name, or it or a set of it would be too large
abbrev pub FileReports : FileToKeep → (name : List ℕ) → Files → Report → Type 0
FileReports file name files report =
    ((bytes : List ℕ) × file.is_file bytes × (report ≡ done_with (map.insert files name bytes) file.line))
    ⊎ ((size : ℕ) × file.is_too_large size × (report ≡ file_refused files (too_large_line size)))
    ⊎ ((states : ℕ) × file.has_large_set states × (report ≡ file_refused files (set_too_large_line states)))

-- when the shelf may fail while it stores a file under this name
abbrev pub MissesKeep : (name : List ℕ) → (has_file : Type 0) → (keeping : Option (List ℕ)) → Type 0
MissesKeep name has_file keeping = has_file × (keeping ≡ Some name)

-- The shelf, whose files were these and are those, stores the file under the name; or why it does not.
abbrev pub Keeps : FileToKeep → (name : List ℕ) → Result (Unit {0}) NoFile → (old new : Option Files) → Type 0
Keeps file name (Ok done) old new = (bytes : List ℕ) × file.is_file bytes × FilesGain old new name bytes
Keeps file name (Err (TooLarge size)) old new = file.is_too_large size × FilesStay old new
Keeps file name (Err (SetTooLarge states)) old new = file.has_large_set states × FilesStay old new
Keeps file name (Err Fault) old new = IsThere file × OtherFilesStay old new name
Keeps file name (Err Memory) old new = FilesStay old new

-- why a file is not stored, if it was not written
abbrev pub unwritten : WriteFileError → NoFile
unwritten (write_error.TooLarge size) = TooLarge size
unwritten (write_error.SetTooLarge states) = SetTooLarge states
unwritten write_error.Memory = Memory

-- why a file is not stored, if the shelf does not store it
abbrev pub unkept : KeepError → NoFile
unkept keep_error.Failed = Fault
unkept keep_error.Memory = Memory

-- the fault line for that
abbrev pub no_file_line : NoFile → List ℕ
no_file_line (TooLarge size) = too_large_line size
no_file_line (SetTooLarge states) = set_too_large_line states
no_file_line Fault = codes "shelf fault\n"
no_file_line Memory = codes "memory\n"

-- the status of a run that stores no file for this reason
abbrev pub no_file_status : NoFile → Status
no_file_status (TooLarge size) = is.File
no_file_status (SetTooLarge states) = is.File
no_file_status Fault = is.ShelfFault
no_file_status Memory = is.Memory
