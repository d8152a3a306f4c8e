use Rattle.std.proofs.Common.{◌≡◌, Some, map, take}
use Rattle.winning_sets.specs.Solve.{kept_at}
use Rattle.first_distances.proofs.kept_table.kept_sets.Given as goal

abbrev pub invariant-loop-mask : goal.invariant-loop-mask
invariant-loop-mask l = map Some l.sets ≡ map (kept_at l.solved 1) (take l.mask-index l.masks)
