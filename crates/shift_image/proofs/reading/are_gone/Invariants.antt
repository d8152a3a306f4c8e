use Rattle.std.proofs.Common.{◌≡◌, take}
use Rattle.shift_image.specs.Image.{gone}
use Rattle.shift_image.proofs.reading.are_gone.Given as goal

abbrev pub invariant-loop-index : goal.invariant-loop-index
invariant-loop-index l = gone (take l.index l.shifts) ≡ take l.index l.vars
