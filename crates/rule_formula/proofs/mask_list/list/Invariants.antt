use Rattle.std.proofs.Common.{◌≡◌}
use Rattle.rule_formula.specs.Fits.{masks_to}
use Rattle.rule_formula.proofs.mask_list.list.Given as goal

abbrev pub invariant-loop-mask : goal.invariant-loop-mask
invariant-loop-mask l = l.all.items ≡ masks_to l.p l.mask
