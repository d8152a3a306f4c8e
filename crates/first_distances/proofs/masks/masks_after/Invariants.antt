use Rattle.std.proofs.Common.{◌≡◌, ◌∷◌}
use Rattle.mask_sets.specs.Stock.{mask_of}
use Rattle.first_distances.specs.RayFormula.{capture_masks_to}
use Rattle.first_distances.proofs.masks.masks_after.Given as goal

abbrev pub invariant-loop-n : goal.invariant-loop-n
invariant-loop-n l = l.all.items ≡ mask_of l.p ∷ capture_masks_to l.p l.n
