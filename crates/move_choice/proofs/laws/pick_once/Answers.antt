use Rattle.mask_sets.specs.Sets.{IsIn}
use Rattle.move_choice.proofs.Once as once
use Rattle.move_choice.proofs.laws.pick_once.Goals as goal

pub returns : goal.returns
returns c = λ sets f p. once.pick_once (IsIn sets) f p
