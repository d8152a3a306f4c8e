use Rattle.mask_sets.proofs.Masks.{mask_one}
use Rattle.first_distances.proofs.masks.live_mask.Goals as goal

pub returns : goal.returns
returns c = mask_one c.mask.ensures
