use Rattle.std.proofs.Common.{take}
use Rattle.winning_sets.specs.Lent.{AreEmpties}
use Rattle.winning_sets.proofs.lent.empty_sets.Given as goal

abbrev pub invariant-loop-mask : goal.invariant-loop-mask
invariant-loop-mask l = AreEmpties l.p.men (take l.mask-index l.masks) l.sets.items
