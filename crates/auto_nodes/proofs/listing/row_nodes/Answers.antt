use Rattle.auto_nodes.proofs.WalkSteps.{listed-item, listed-known}
use Rattle.auto_nodes.proofs.listing.row_nodes.Goals as goal

pub row_node-requires-clause-known : goal.row_node-requires-clause-known
row_node-requires-clause-known c =
    listed-known
    (listed-item c.args.diagrams.now c.args.listed.now c.loop-node.node-index c.node-item.result c.requires.tests c.as_slice-nodes.result.now c.as_slice-nodes.ensures c.loop-node-test.true
    c.node-item.is)

pub row_node-requires-clause-test : goal.row_node-requires-clause-test
row_node-requires-clause-test c =
    listed-item c.args.diagrams.now c.args.listed.now c.loop-node.node-index c.node-item.result c.requires.tests c.as_slice-nodes.result.now c.as_slice-nodes.ensures c.loop-node-test.true
    c.node-item.is
