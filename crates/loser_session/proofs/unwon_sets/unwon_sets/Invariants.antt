use Rattle.std.proofs.Common.{take}
use Rattle.std.specs.List.{AllZip}
use Rattle.rule_formula.specs.Fits.{masks_of}
use Rattle.loser_session.specs.Unwon.{IsUnwonSet}
use Rattle.loser_session.proofs.unwon_sets.unwon_sets.Given as goal

abbrev pub invariant-loop-mask : goal.invariant-loop-mask
invariant-loop-mask l = AllZip (IsUnwonSet l.solved l.ply) (take l.mask-index (masks_of l.solved.position)) l.sets.items
