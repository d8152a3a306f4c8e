-- The report of a run, and how a run may end.
use Rattle.std.specs.Prelude.{◌≡◌, ◌⊎◌, ℕ, ◌≤◌, List, [], ◌++◌, length, take, Bool, false, Option, Some, None, IsTrue, codes}
use Rattle.std.specs.Io.KnownBytes.{Appends}
use Rattle.desk_base.specs.Faults.{HasRisen}
use Rattle.desk_base.specs.Files.{Files, FilesStay, Go, OtherFilesStay}
use Rattle.desk_base.specs.Moves.{AppendsFront}
use Rattle.desk_report.specs.declared.status.Status.{Status}
use Rattle.desk_report.specs.declared.status.Status.TheVariants as is

-- What a run does if no port fails and memory does not run out.
pub record Report : Type 0 where
  pub status : Status
  -- the text that it writes before its fault line
  pub text : List ℕ
  -- its fault line, empty if there is none
  pub fault : List ℕ
  -- it ends because the input ends
  pub short : Bool
  -- the files afterwards
  pub files : Files

-- a run that ends with this fault line and leaves these files
abbrev pub refusal_as : Files → Status → List ℕ → Bool → Report
refusal_as files status fault short = record { status = status; text = []; fault = fault; short = short; files = files }

-- a run that ends as done with this text and leaves these files
abbrev pub done_with : Files → List ℕ → Report
done_with files text = record { status = is.Done; text = text; fault = []; short = false; files = files }

-- the run ends as done with this text
abbrev pub IsDoneWith : List ℕ → Files → Report → Type 0
IsDoneWith text files report = report ≡ done_with files text

-- The fault line names the first step that exceeds the budget, or no step does and this is reported.
abbrev pub FirstOver : {Step : Type 0} → (line_of : Step → List ℕ) → (Exceeds : Step → Type 0)
    → (reports : Report → Type 0) → Files → Report → Type 0
FirstOver {Step} line_of Exceeds reports files report =
    ((step : Step) × Exceeds step × (report ≡ refusal_as files is.Budget (line_of step) false)) ⊎ reports report

-- This text and then this fault line were written to the sink that was `old` and is `new`; if the sink failed, a suffix
-- of the fault line may be missing.
pub record Writes (text fault : List ℕ) (old new : Option (List ℕ)) (failed : Type 0) : Type 0 where
  pub count : ℕ
  pub front : Appends old new (text ++ take count fault)
  pub whole : (length fault ≤ count) ⊎ failed

-- The exposed state of the ports of a run: the bytes still to come, those written, and the files, each if its port
-- exposes it, and the numbers of failures of the source, the sink and the shelf.
pub record Seen : Type 0 where
  pub left : Option (List ℕ)
  pub written : Option (List ℕ)
  pub files : Option Files
  pub read_faults : ℕ
  pub write_faults : ℕ
  pub shelf_faults : ℕ

-- the state of ports that expose this and have failed this often
abbrev pub seen_of : (left written : Option (List ℕ)) → Option Files → (reads writes shelf : ℕ) → Seen
seen_of left written files reads writes shelf =
    record {
      left = left;
      written = written;
      files = files;
      read_faults = reads;
      write_faults = writes;
      shelf_faults = shelf;
    }

-- the state for a command with a source and a sink and no shelf: the files do not change
abbrev pub of_streams : Files → (left written : Option (List ℕ)) → (reads writes : ℕ) → Seen
of_streams files left written reads writes = seen_of left written (Some files) reads writes 0

-- the state for a command with a sink alone: it reads nothing
abbrev pub of_sink : Files → (written : Option (List ℕ)) → (writes : ℕ) → Seen
of_sink files written writes = of_streams files None written 0 writes

-- the state for a command with a sink and a shelf: it reads nothing
abbrev pub of_shelf : (written : Option (List ℕ)) → Option Files → (writes shelf : ℕ) → Seen
of_shelf written files writes shelf = seen_of None written files 0 writes shelf

-- the sink failed during the run
abbrev pub WriteFailed : Seen → Seen → Type 0
WriteFailed old new = HasRisen old.write_faults new.write_faults

-- these are the files after the run
abbrev pub Leaves : Files → Seen → Seen → Type 0
Leaves files old new = Go old.files new.files (λ before after. after ≡ files)

-- the files are the same after the run as before
abbrev pub KeepsFiles : Seen → Seen → Type 0
KeepsFiles old new = FilesStay old.files new.files

-- the run did what is reported
pub record DoesReport (status : Status) (report : Report) (old new : Seen) : Type 0 where
  pub reported : status ≡ report.status
  pub written : Writes report.text report.fault old.written new.written (WriteFailed old new)
  pub files : Leaves report.files old new

-- the sink failed within the text, which therefore is not empty
pub record WritesSome (report : Report) (old new : Seen) : Type 0 where
  pub failed : WriteFailed old new
  pub written : AppendsFront old.written new.written report.text
  pub files : Leaves report.files old new

-- the source failed, and the report of the bytes before that ends because they end
pub record ReadsSome (report : Report) (old new : Seen) : Type 0 where
  pub failed : HasRisen old.read_faults new.read_faults
  pub short : IsTrue report.short
  pub written : Writes report.text (codes "read fault\n") old.written new.written (WriteFailed old new)
  pub files : KeepsFiles old new

-- memory ran out, and nothing else was written
pub record LacksMemory (old new : Seen) : Type 0 where
  pub written : Writes [] (codes "memory\n") old.written new.written (WriteFailed old new)
  pub files : KeepsFiles old new

-- The files are the same after the run as before, except the one that was being stored, if any, which is unknown.
abbrev pub KeepsOthers : (keeping : Option (List ℕ)) → Seen → Seen → Type 0
KeepsOthers None old new = KeepsFiles old new
KeepsOthers (Some name) old new = OtherFilesStay old.files new.files name

-- the shelf failed, and nothing else was written
pub record MissesShelf (keeping : Option (List ℕ)) (old new : Seen) : Type 0 where
  pub failed : HasRisen old.shelf_faults new.shelf_faults
  pub written : Writes [] (codes "shelf fault\n") old.written new.written (WriteFailed old new)
  pub files : KeepsOthers keeping old new

-- The bytes of a report: the whole input, or, if the source failed, the bytes taken.
abbrev pub reported_on : Status → (taken rest : List ℕ) → List ℕ
reported_on is.ReadFault taken rest = taken
reported_on status taken rest = taken ++ rest

-- a command without a shelf has no fault of it
abbrev pub NeverMisses : (keeping : Option (List ℕ)) → Type 0
NeverMisses keeping = ⊥

-- How a run, or its command, ends with this status: `reports` says what is reported, `may_lack` when memory may run
-- out, and `may_miss` when the shelf may fail while the file of this name, or none, is being stored.
abbrev pub RunEndsAs : Status → (Report → Type 0) → (may_lack : Type 0) → (may_miss : Option (List ℕ) → Type 0) → Seen → Seen
    → Type 0
RunEndsAs is.ReadFault reports may_lack may_miss old new = (report : Report) × reports report × ReadsSome report old new
RunEndsAs is.WriteFault reports may_lack may_miss old new = (report : Report) × reports report × WritesSome report old new
RunEndsAs is.ShelfFault reports may_lack may_miss old new =
    (keeping : Option (List ℕ)) × may_miss keeping × MissesShelf keeping old new
RunEndsAs is.Memory reports may_lack may_miss old new = may_lack × LacksMemory old new
RunEndsAs status reports may_lack may_miss old new = (report : Report) × reports report × DoesReport status report old new
