use Rattle.std.proofs.Common.{◌≡◌, drop}
use Rattle.shift_image.specs.Image.{moved_var}
use Rattle.shift_image.proofs.movable.moved_var.Given as goal

abbrev pub invariant-loop-shift : goal.invariant-loop-shift
invariant-loop-shift l = moved_var (drop l.shift-index l.shifts) l.var ≡ moved_var l.shifts l.var
