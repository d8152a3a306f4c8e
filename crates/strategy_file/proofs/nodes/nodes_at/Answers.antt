use Rattle.std.proofs.Common.{◌+◌, ◌∙◌, [], ap}
use Rattle.std.proofs.lemmas.List.{length_push}
use Rattle.std.proofs.lemmas.Result.{err_from_is_err_and}
use Rattle.strategy_file.specs.Reading.{taken}
use Rattle.strategy_file.specs.Rests.{left_of}
use Rattle.strategy_file.specs.SharedTables.{nodes_layout}
use Rattle.strategy_file.proofs.NodeReads.{nodes_fail, nodes_go_on, AreRowNodes-push}
use Rattle.strategy_file.proofs.nodes.nodes_at.Goals as goal

pub returns-in_err-node-clause-nodes : goal.returns-in_err-node-clause-nodes
returns-in_err-node-clause-nodes c =
    let p = err_from_is_err_and c.from_residual-in_err-node.result c.from_residual-in_err-node.ensures.1 in
    rw (p.1, p.2)
    (nodes_fail c.args.tracks c.args.states c.args.count c.loop.counter c.loop.left.at c.loop.left.bytes.now c.loop.nodes.items
    (taken (nodes_layout c.args.tracks c.args.states c.args.count []) c.args.rest.at c.args.rest.bytes.now) c.loop.invariant.so_far c.in_err-node.field-0.0 c.loop-test.true
    (rw (← c.as_slice.ensures.value) c.in_err-node.ensures.node))

pub loop-preserved : goal.loop-preserved
loop-preserved c = record {
  size = rw c.in_ok-push.ensures.items (length_push c.loop.nodes.items c.in_ok-node.node ∙ ap (λ n. n + 1) c.loop.invariant.size);
  are =
      rw c.in_ok-push.ensures.items
      (AreRowNodes-push c.args.tracks c.args.states c.loop.nodes.items c.in_ok-node.node c.loop.invariant.are (rw (← c.as_slice.ensures.value) c.in_ok-node.ensures.is));
  so_far =
      rw c.in_ok-push.ensures.items
      (nodes_go_on c.args.tracks c.args.states c.args.count c.loop.counter c.loop.left.at c.loop.left.bytes.now c.loop.nodes.items
      (taken (nodes_layout c.args.tracks c.args.states c.args.count []) c.args.rest.at c.args.rest.bytes.now) c.loop.invariant.so_far c.in_ok-node.node
      (left_of c.in_ok-node.after) c.loop-test.true (rw (← c.as_slice.ensures.value) c.in_ok-node.ensures.node));
}
