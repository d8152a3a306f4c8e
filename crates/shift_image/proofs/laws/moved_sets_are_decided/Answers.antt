use Rattle.shift_image.proofs.MovedSets.{moved-decided}
use Rattle.shift_image.proofs.laws.moved_sets_are_decided.Goals as goal

pub returns : goal.returns
returns c = λ i e set a b is is_set among moved.
    moved-decided i is c.words_can_be_moved.ensures e set a b is_set among moved
