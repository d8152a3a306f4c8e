-- How a run ends.
use Rattle.std.specs.Prelude.{◌≡◌, ℕ, List, [], IfOk, IfSome, IsTrue, Ok, Result}
use Rattle.std.specs.Io.KnownBytes.{Consumes}
use Rattle.chess_text.specs.PositionText.{text_of_lines}
use Rattle.desk_base.specs.Files.{Files}
use Rattle.desk_base.specs.Lent.{Lent, all_new, all_old}
use Rattle.desk_base.specs.declared.files.Shelf.{Ghosts as ShelfModel}
use Rattle.desk_base.specs.declared.sink.Sink.{Ghosts as SinkModel}
use Rattle.desk_base.specs.declared.source.Source.{Ghosts as SourceModel}
use Rattle.desk_text.specs.Taken.{TakesLines}
use Rattle.desk_report.specs.Outcome.{Report, Seen, RunEndsAs, reported_on}
use Rattle.desk_report.specs.Ports.{ports_seen}
use Rattle.desk_args.specs.Order.{IsOrderOf, Ordered}
use Rattle.desk_args.specs.declared.order.Order.{Order}
use Rattle.desk_args.specs.declared.order.TextOrder.{TextOrder}
use Rattle.desk_args.specs.declared.order.UsageWhy.{UsageWhy}
use Rattle.mate_desk.specs.Report.{Reports, MayLackMemory, MayMissShelf}
use Rattle.desk_report.specs.declared.status.Status.{Status}
use Rattle.desk_report.specs.declared.status.Status.TheVariants as is

-- The input of a run: the bytes that it took of its source, those after them, and the files. They are what the ports
-- expose, if they expose it.
pub record Given (old new : Seen) : Type 0 where
  pub taken : List ℕ
  pub rest : List ℕ
  pub files : Files
  pub consumed : Consumes old.left new.left taken
  pub left : IfSome new.left (λ told. told ≡ rest)
  pub kept : IfSome old.files (λ told. told ≡ files)

-- a line is due after these lines: their report ends because they end
abbrev pub IsLineDue : List (List ℕ) → Files → (before : List (List ℕ)) → Type 0
IsLineDue words files before =
    (report : Report) × Reports words (text_of_lines before) files report × IsTrue report.short

-- the bytes that a run with this status takes: none if the arguments are not a command, and otherwise the lines that it
-- reads
abbrev pub Takes : List (List ℕ) → Files → Status → List ℕ → Type 0
Takes words files is.Usage taken = taken ≡ []
Takes words files status taken = (pending : List ℕ) × TakesLines (IsLineDue words files) taken pending

-- How a run of these arguments with this status ends.
pub record RunEnds (words : List (List ℕ)) (status : Status) (old new : Seen) : Type 0 where
  pub given : Given old new
  pub takes : Takes words given.files status given.taken
  pub ends :
      RunEndsAs status (λ report. Reports words (reported_on status given.taken given.rest) given.files report)
      (MayLackMemory words given.taken) (MayMissShelf words given.taken given.files) old new

-- How it ends with a source, a sink and a shelf.
abbrev pub RunEndsOn : {S K H : Type 0} → SourceModel S → SinkModel K → ShelfModel H → (words : List (List ℕ)) → Status
    → (ports : Lent S × Lent K × Lent H) → Type 0
RunEndsOn s k h words status ports =
    RunEnds words status (ports_seen s k h (all_old ports)) (ports_seen s k h (all_new ports))

-- how a run ends of any arguments that are this command on a text
abbrev pub OrderEndsOn : {S K H : Type 0} → SourceModel S → SinkModel K → ShelfModel H → TextOrder → Status
    → (ports : Lent S × Lent K × Lent H) → Type 0
OrderEndsOn s k h order status ports =
    (words : List (List ℕ)) → IsOrderOf order words → RunEndsOn s k h words status ports

-- if the arguments are a command with the first property, the second statement is true
abbrev pub WhereOrder : (words : List (List ℕ)) → (this : Order → Type 0) → (that : Type 0) → Type 0
WhereOrder words this that = (order : Order) → Ordered words (Ok order) → this order → that

-- if the arguments are not a command, or one with the first property, the second statement is true
abbrev pub WhereNoOrderOr : (words : List (List ℕ)) → (this : Order → Type 0) → (that : Type 0) → Type 0
WhereNoOrderOr words this that = (answer : Result Order UsageWhy) → Ordered words answer → IfOk answer this → that
