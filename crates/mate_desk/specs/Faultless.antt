-- How a run ends over ports that expose everything and do not fail.
use Rattle.std.specs.Prelude.{◌≡◌, ◌⊎◌, ℕ, List, ◌++◌, Some, codes}
use Rattle.desk_base.specs.Faults.{HasRisen}
use Rattle.desk_base.specs.Files.{Files}
use Rattle.desk_report.specs.Outcome.{Report, Seen, WriteFailed}
use Rattle.desk_report.specs.declared.status.Status.{Status}
use Rattle.desk_report.specs.declared.status.Status.TheVariants as is
use Rattle.mate_desk.specs.Report.{MayLackMemory, Reports}
use Rattle.mate_desk.specs.Run.{RunEnds, Takes}

-- The state of such ports: the bytes still to come, those written, and the files.
pub record Held : Type 0 where
  pub input : List ℕ
  pub output : List ℕ
  pub files : Files

abbrev pub held : (input output : List ℕ) → Files → Held
held input output files = record { input = input; output = output; files = files }

-- The ports expose this state.
pub record Tells (seen : Seen) (all : Held) : Type 0 where
  pub input : seen.left ≡ Some all.input
  pub output : seen.written ≡ Some all.output
  pub files : seen.files ≡ Some all.files

-- No port has counted a fault. This is true of each port that always counts 0.
pub record NoneFailed (old new : Seen) : Type 0 where
  pub source : ¬ HasRisen old.read_faults new.read_faults
  pub sink : ¬ WriteFailed old new
  pub shelf : ¬ HasRisen old.shelf_faults new.shelf_faults

-- a status of a port that failed
abbrev pub IsFault : Status → Type 0
IsFault is.ReadFault = Unit {0}
IsFault is.WriteFault = Unit {0}
IsFault is.ShelfFault = Unit {0}
IsFault status = ⊥

-- The run did what is reported of the whole input, and wrote the whole text and the whole fault line.
pub record DoesAll (words : List (List ℕ)) (status : Status) (old new : Held) : Type 0 where
  pub report : Report
  pub reports : Reports words old.input old.files report
  pub status_is : status ≡ report.status
  pub output : new.output ≡ old.output ++ (report.text ++ report.fault)
  pub files : new.files ≡ report.files

-- Memory ran out for the command, and the run wrote the whole line that says so, and nothing else.
pub record LacksAll (words : List (List ℕ)) (taken : List ℕ) (status : Status) (old new : Held) : Type 0 where
  pub lacks : MayLackMemory words taken
  pub status_is : status ≡ is.Memory
  pub output : new.output ≡ old.output ++ codes "memory\n"
  pub files : new.files ≡ old.files

-- How a run of these arguments ends: no fault is reported, and nothing is cut.
pub record EndsExactly (words : List (List ℕ)) (status : Status) (old new : Held) : Type 0 where
  pub faultless : ¬ IsFault status
  pub taken : List ℕ
  pub input : old.input ≡ taken ++ new.input
  pub takes : Takes words old.files status taken
  pub ends : DoesAll words status old new ⊎ LacksAll words taken status old new

-- The state of ports that exposed this before: a run over them has ended exactly.
pub record ToldExactly (words : List (List ℕ)) (status : Status) (old : Held) (after : Seen) : Type 0 where
  pub new : Held
  pub told : Tells after new
  pub ends : EndsExactly words status old new

-- each run over ports that expose everything and do not fail ends in this way
abbrev pub ExactWhereNoneFails : Type 0
ExactWhereNoneFails =
    (words : List (List ℕ)) (status : Status) (old : Held) (before after : Seen)
    → Tells before old → NoneFailed before after → RunEnds words status before after
    → ToldExactly words status old after
