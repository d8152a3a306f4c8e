use Rattle.std.proofs.Common.{sym, subst}
use Rattle.letter_diagram.specs.Leaves.{AreLeaves}
use Rattle.letter_diagram.proofs.LeafOrder.{AreLeaves-values}
use Rattle.letter_diagram.proofs.diagrams.Diagrams.leaves.Goals as goal

pub returns : goal.returns
returns c = subst (AreLeaves c.args.self.now c.args.node) (sym c.in_ok-leaves.ensures.values) (AreLeaves-values _ _ c.in_ok-firsts.firsts c.in_ok-leaves.ensures.ordered c.in_ok-firsts.ensures)
