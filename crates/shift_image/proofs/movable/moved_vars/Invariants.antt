use Rattle.std.proofs.Common.{◌≡◌, map, take}
use Rattle.shift_image.specs.Image.{moved_var}
use Rattle.shift_image.proofs.movable.moved_vars.Given as goal

abbrev pub invariant-loop-var : goal.invariant-loop-var
invariant-loop-var l = l.moved.items ≡ map (moved_var l.shifts) (take l.var-index l.vars)
