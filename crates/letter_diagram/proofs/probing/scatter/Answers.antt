use Rattle.std.proofs.Common.{refl}
use Rattle.letter_diagram.specs.Probing.{spread_of}
use Rattle.letter_diagram.proofs.probing.scatter.Goals as goal

pub returns : goal.returns
unfolding spread_of
returns c = refl
