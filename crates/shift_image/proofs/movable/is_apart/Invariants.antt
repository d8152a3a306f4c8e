use Rattle.std.proofs.Common.{take, All}
use Rattle.shift_image.specs.Image.{AreOtherVars}
use Rattle.shift_image.proofs.movable.is_apart.Given as goal

abbrev pub invariant-loop-other : goal.invariant-loop-other
invariant-loop-other l = All (AreOtherVars l.shift) (take l.other-index l.others)
