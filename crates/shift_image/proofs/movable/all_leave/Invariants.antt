use Rattle.std.proofs.Common.{take, All}
use Rattle.shift_image.specs.Read.{Leaves}
use Rattle.shift_image.proofs.movable.all_leave.Given as goal

abbrev pub invariant-loop-shift : goal.invariant-loop-shift
invariant-loop-shift l = All (Leaves l.vars) (take l.shift-index l.shifts)
