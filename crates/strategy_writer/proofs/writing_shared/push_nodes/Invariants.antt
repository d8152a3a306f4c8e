use Rattle.std.proofs.Common.{◌≡◌, ◌++◌, take}
use Rattle.std.specs.List.{flat_map}
use Rattle.strategy_writer.specs.SharedWritten.{node_bytes}
use Rattle.strategy_writer.proofs.writing_shared.push_nodes.Given as goal

abbrev pub invariant-loop-node : goal.invariant-loop-node
invariant-loop-node l = l.out.items ≡ l.fn.out.items ++ flat_map node_bytes (take l.node-index l.nodes)
