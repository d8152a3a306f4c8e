use Rattle.std.proofs.Common.{refl}
use Rattle.letter_diagram.specs.Probing.{place_of}
use Rattle.letter_diagram.proofs.probing.place.Goals as goal

pub returns-clause-at : goal.returns-clause-at
unfolding place_of
returns-clause-at c = refl
