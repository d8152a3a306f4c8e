use Rattle.letter_diagram.proofs.PairNumbers.{PairsKept-refl}
use Rattle.diagram_product.proofs.SidedPairs.{RemembersPaired-grows}
use Rattle.diagram_product.proofs.product.Product.choose.Goals as goal

pub invariant_of-self : goal.invariant_of-self
invariant_of-self c = RemembersPaired-grows c.choose.ensures.grows (PairsKept-refl _) c.self.invariant

pub invariant_of-self-2 : goal.invariant_of-self-2
invariant_of-self-2 c = RemembersPaired-grows c.choose.ensures.grows (PairsKept-refl _) c.self.invariant
