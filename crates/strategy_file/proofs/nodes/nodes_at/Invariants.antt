use Rattle.std.proofs.Common.{◌≡◌, ◌-◌, [], length}
use Rattle.auto_nodes.specs.Nodes.{AreRowNodes}
use Rattle.strategy_file.specs.Reading.{taken}
use Rattle.strategy_file.specs.SharedTables.{nodes_layout}
use Rattle.strategy_file.proofs.nodes.nodes_at.Given as goal

abbrev pub invariant-loop : goal.invariant-loop
invariant-loop l = record {
  size : length l.nodes.items ≡ l.counter;
  are : AreRowNodes l.tracks l.states l.nodes.items;
  so_far : taken (nodes_layout l.tracks l.states (l.count - l.counter) l.nodes.items) l.left.at l.left.bytes.now
      ≡ taken (nodes_layout l.tracks l.states l.count []) l.rest.at l.rest.bytes.now;
}
