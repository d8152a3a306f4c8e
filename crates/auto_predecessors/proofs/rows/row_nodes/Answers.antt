use Rattle.auto_predecessors.proofs.RowNodes.{AreRowNodes-own}
use Rattle.auto_predecessors.proofs.rows.row_nodes.Goals as goal

pub returns : goal.returns
returns c = rw c.row_nodes.ensures (AreRowNodes-own c.diagrams.ensures.nodes)
