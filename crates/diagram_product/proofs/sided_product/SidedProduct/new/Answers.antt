use Rattle.diagram_product.proofs.SidedPairs.{RemembersPaired-nothing}
use Rattle.diagram_product.proofs.sided_product.SidedProduct.new.Goals as goal

pub invariant_of-result : goal.invariant_of-result
invariant_of-result c = RemembersPaired-nothing c.in_ok-memo.ensures
