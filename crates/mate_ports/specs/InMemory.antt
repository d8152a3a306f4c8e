-- How the program ends over bytes in memory.
use Rattle.std.specs.Prelude.{◌≡◌, List, ℕ, ◌++◌, [], MatchResult, Result, String, Vec}
use Rattle.std.specs.declared.alloc.Global.{Global}
use Rattle.desk_args.specs.Order.{texts, usage_line}
use Rattle.desk_args.specs.declared.order.UsageWhy.TheVariants.{Unknown}
use Rattle.desk_report.specs.declared.status.Status.{Status}
use Rattle.desk_report.specs.declared.status.Status.TheVariants as is
use Rattle.mate_desk.specs.Faultless.{EndsExactly, Held, held}
use Rattle.mate_ports.specs.declared.program.Ran.{Ran}
use Rattle.mate_ports.specs.declared.program.WordsError.{WordsError}
use Rattle.mate_ports.specs.declared.program.WordsError.TheVariants as words_error

-- the status without arguments, and the text written then
abbrev pub status_without : WordsError → Status
status_without words_error.Memory = is.Memory
status_without words_error.Untold = is.Usage

abbrev pub line_without : WordsError → List ℕ
line_without words_error.Memory = []
line_without words_error.Untold = usage_line Unknown

-- A run without arguments writes why, if that is to be written, reads nothing, and leaves the files unchanged.
pub record RefusesExactly (why : WordsError) (status : Status) (old new : Held) : Type 0 where
  pub refused : status ≡ status_without why
  pub input : new.input ≡ old.input
  pub output : new.output ≡ old.output ++ line_without why
  pub files : new.files ≡ old.files

-- the state of the three ports after a run
abbrev pub ran_held : Ran → Held
ran_held ran = held ran.rest.now ran.output.items ran.files

-- how the program ends, given its arguments or why there are none
abbrev pub ProgramEndsExactly : Result (Vec (String Global) Global) WordsError → Held → Ran → Type 0
ProgramEndsExactly words old ran =
    MatchResult words (λ given. EndsExactly (texts given.items) ran.status old (ran_held ran))
    (λ why. RefusesExactly why ran.status old (ran_held ran))
