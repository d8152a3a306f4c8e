-- How the program ends, also if there are no arguments.
use Rattle.std.specs.Prelude.{◌≡◌, ℕ, List, [], MatchResult, Option, Result, String, Vec}
use Rattle.std.specs.declared.alloc.Global.{Global}
use Rattle.desk_base.specs.Lent.{Lent, all_new, all_old}
use Rattle.desk_base.specs.declared.files.Shelf.{Ghosts as ShelfModel}
use Rattle.desk_base.specs.declared.sink.Sink.{Ghosts as SinkModel}
use Rattle.desk_base.specs.declared.source.Source.{Ghosts as SourceModel}
use Rattle.desk_args.specs.Order.{texts, usage_line}
use Rattle.desk_report.specs.Outcome.{Seen, Writes, WriteFailed}
use Rattle.desk_report.specs.Ports.{ports_seen}
use Rattle.desk_args.specs.declared.order.UsageWhy.TheVariants as usage
use Rattle.desk_report.specs.declared.status.Status.{Status}
use Rattle.desk_report.specs.declared.status.Status.TheVariants as is
use Rattle.mate_desk.specs.Run.{RunEnds}
use Rattle.mate_ports.specs.declared.program.WordsError.{WordsError}
use Rattle.mate_ports.specs.declared.program.WordsError.TheVariants.{Memory, Untold}

-- If memory for the arguments runs out, nothing is written. If they are not text, they are refused like an unknown
-- command.
abbrev pub RefusesWords : WordsError → Status → (old new : Option (List ℕ)) → (failed : Type 0) → Type 0
RefusesWords Memory status old new failed = (status ≡ is.Memory) × (new ≡ old)
RefusesWords Untold status old new failed = (status ≡ is.Usage) × Writes [] (usage_line usage.Unknown) old new failed

-- A run without arguments reads nothing and leaves the files unchanged.
pub record EndsWithoutWords (why : WordsError) (status : Status) (old new : Seen) : Type 0 where
  pub refused : RefusesWords why status old.written new.written (WriteFailed old new)
  pub left : new.left ≡ old.left
  pub read_faults : new.read_faults ≡ old.read_faults
  pub files : new.files ≡ old.files
  pub shelf_faults : new.shelf_faults ≡ old.shelf_faults

-- How the program ends, given its arguments or why there are none.
abbrev pub ProgramEnds : Result (Vec (String Global) Global) WordsError → Status → (old new : Seen) → Type 0
ProgramEnds words status old new =
    MatchResult words (λ given. RunEnds (texts given.items) status old new) (λ why. EndsWithoutWords why status old new)

-- How it ends with a source, a sink and a shelf.
abbrev pub ProgramEndsOn : {S K H : Type 0} → SourceModel S → SinkModel K → ShelfModel H
    → Result (Vec (String Global) Global) WordsError → Status → (ports : Lent S × Lent K × Lent H) → Type 0
ProgramEndsOn s k h words status ports =
    ProgramEnds words status (ports_seen s k h (all_old ports)) (ports_seen s k h (all_new ports))
