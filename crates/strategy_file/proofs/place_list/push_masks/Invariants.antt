use Rattle.std.proofs.Common.{◌≡◌, ◌++◌, map, take}
use Rattle.strategy_file.proofs.place_list.push_masks.Given as goal

abbrev pub invariant-loop-mask : goal.invariant-loop-mask
invariant-loop-mask l = l.places.items ≡ l.initial.places.items ++ map (λ mask. (l.ply, mask)) (take l.mask-index l.masks)
