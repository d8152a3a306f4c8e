-- The report of a run.
use Rattle.std.specs.Prelude.{◌≡◌, ℕ, ◌<◌, List, false, Option, Result, Ok, Err}
use Rattle.desk_base.specs.Files.{Files}
use Rattle.desk_formula.specs.Arith.{ArithReports, IsBehindLine}
use Rattle.desk_crowd.specs.Crowd.{CrowdSays, IsBehindCrowd}
use Rattle.desk_describe.specs.Describe.{DescribeReports}
use Rattle.desk_files.specs.Check.{CheckReports}
use Rattle.desk_solve.specs.Decide.{DecideReports}
use Rattle.desk_solve.specs.Drill.{DrillReports, IsDrilled}
use Rattle.desk_solve.specs.First.{FirstReports, HasNoFirstMove}
use Rattle.desk_files.specs.Keep.{HasFileToKeep, KeepReports}
use Rattle.desk_solve.specs.Least.{LeastReports}
use Rattle.desk_files.specs.Migrate.{MigrateReports, MissesMigrate}
use Rattle.desk_args.specs.Order.{Ordered, usage_line}
use Rattle.desk_report.specs.Outcome.{Report, refusal_as}
use Rattle.desk_games.specs.Defend.{DefendReports}
use Rattle.desk_games.specs.Play.{PlayReports}
use Rattle.desk_games.specs.Resume.{ResumeReports}
use Rattle.mate_desk.specs.Command.{Command, of_file, of_files, of_lines, of_text, of_text_to_keep, of_words}
use Rattle.mate_desk.specs.Show.{ShowReports}
use Rattle.desk_verdict.specs.Verdict.{HasNothingToPlay}
use Rattle.desk_args.specs.declared.order.Order.{Order}
use Rattle.desk_args.specs.declared.order.Order.TheVariants as orders
use Rattle.desk_args.specs.declared.order.UsageWhy.{UsageWhy}
use Rattle.desk_text.specs.declared.problem.Problem.{Problem}
use Rattle.desk_report.specs.declared.status.Status.TheVariants as is

-- The properties of the runs of each command, one row each.
abbrev pub command_of : Order → Command
command_of (orders.Decide n budget) =
    of_text (λ problem rest. DecideReports n budget problem) (λ problem. ¬ HasNothingToPlay n problem)
command_of (orders.Least limit budget) =
    of_text (λ problem rest. LeastReports limit budget problem) (λ problem. ¬ HasNothingToPlay limit problem)
command_of (orders.First n budget) =
    of_text (λ problem rest. FirstReports n budget problem) (λ problem. ¬ HasNoFirstMove n problem)
command_of (orders.Describe n budget) =
    of_text (λ problem rest. DescribeReports n budget problem) (λ problem. ¬ HasNoFirstMove n problem)
command_of (orders.Play n budget) =
    of_text (λ problem rest. PlayReports n budget problem rest) (λ problem. ¬ HasNothingToPlay n problem)
command_of (orders.Defend n budget) = of_text (λ problem rest. DefendReports n budget problem rest) (λ problem. Unit {0})
command_of (orders.Keep n budget) =
    of_text_to_keep (λ problem name. KeepReports n budget problem name) (λ problem. ¬ HasNothingToPlay n problem)
    (HasFileToKeep n budget)
command_of (orders.Crowd n budget) = of_lines (λ lines. CrowdSays n budget lines) IsBehindCrowd
command_of (orders.Check budget) = of_file (λ lines name. CheckReports budget name) (Unit {0})
command_of (orders.Resume budget) = of_file (λ lines name. ResumeReports budget lines name) ⊥
command_of orders.Migrate = of_files MigrateReports MissesMigrate
command_of orders.Show = of_text (λ problem rest. ShowReports problem) (λ problem. Unit {0})
command_of (orders.Drill seed count) = of_words (DrillReports seed count) (0 < count) (IsDrilled seed count)
command_of (orders.Arith budget) = of_lines (λ lines. ArithReports budget lines) IsBehindLine

-- the report of a command, given its arguments, the bytes of the input, and the files
abbrev pub ReportsOrder : Order → (words : List (List ℕ)) → List ℕ → Files → Report → Type 0
ReportsOrder order = (command_of order).reports

abbrev pub ReportsWords : Result Order UsageWhy → (words : List (List ℕ)) → List ℕ → Files → Report → Type 0
ReportsWords (Err why) words bytes files report = report ≡ refusal_as files is.Usage (usage_line why) false
ReportsWords (Ok order) words bytes files report = ReportsOrder order words bytes files report

-- The report of arguments, the bytes of an input, and files.
abbrev pub Reports : List (List ℕ) → List ℕ → Files → Report → Type 0
Reports words bytes files report =
    (answer : Result Order UsageWhy) × Ordered words answer × ReportsWords answer words bytes files report

-- the command allocates for the problem of a text, or for one that follows from a seed
abbrev pub TakesMemory : Order → Problem → Type 0
TakesMemory order = (command_of order).takes

-- when memory may run out, given the command and the bytes taken
abbrev pub OrderMayLack : Order → List ℕ → Type 0
OrderMayLack order = (command_of order).may_lack

-- the arguments are a command, and memory may run out after these bytes were taken
abbrev pub MayLackMemory : List (List ℕ) → (taken : List ℕ) → Type 0
MayLackMemory words taken = (order : Order) × Ordered words (Ok order) × OrderMayLack order taken

-- when the shelf may fail while the file of this name, or none, is being stored, given the command, its arguments, the
-- bytes taken, and the files
abbrev pub OrderMayMiss : Order → (words : List (List ℕ)) → (taken : List ℕ) → Files → (keeping : Option (List ℕ)) → Type 0
OrderMayMiss order = (command_of order).may_miss

-- the arguments are a command, and the shelf with these files may fail in this way after these bytes were taken
abbrev pub MayMissShelf : List (List ℕ) → (taken : List ℕ) → Files → (keeping : Option (List ℕ)) → Type 0
MayMissShelf words taken files keeping =
    (order : Order) × Ordered words (Ok order) × OrderMayMiss order words taken files keeping

-- the command reads a position text
abbrev pub IsOfText : Order → Type 0
IsOfText order = (command_of order).text

-- the command uses no file
abbrev pub UsesNoShelf : Order → Type 0
UsesNoShelf order = (command_of order).no_shelf

-- the command reads neither a text nor lines
abbrev pub ReadsNoText : Order → Type 0
ReadsNoText order = (command_of order).no_text
