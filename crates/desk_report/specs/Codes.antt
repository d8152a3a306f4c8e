-- The exit code of the process.
use Rattle.std.specs.Prelude.{ℕ}
use Rattle.desk_report.specs.declared.status.Status.{Status}
use Rattle.desk_report.specs.declared.status.Status.TheVariants.{Done, Usage, Text, Unsound, ReadFault, WriteFault, ShelfFault, Budget, Wide, Memory, File, Ended, TooMany}

abbrev pub code_of : Status → ℕ
code_of Done = 0
code_of Usage = 2
code_of Text = 3
code_of Unsound = 4
code_of ReadFault = 5
code_of WriteFault = 6
code_of ShelfFault = 7
code_of Budget = 8
code_of Wide = 9
code_of Memory = 10
code_of File = 11
code_of Ended = 12
code_of TooMany = 13
