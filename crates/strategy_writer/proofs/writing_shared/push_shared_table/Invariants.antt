use Rattle.std.proofs.Common.{◌≡◌, ◌++◌, drop}
use Rattle.std.specs.List.{flat_map, zip}
use Rattle.auto_nodes.specs.Nodes.{shared_of}
use Rattle.strategy_writer.specs.SharedWritten.{shared_state_bytes, shared_table_bytes}
use Rattle.strategy_writer.proofs.writing_shared.push_shared_table.Given as goal

abbrev pub invariant-loop-state : goal.invariant-loop-state
invariant-loop-state l =
    l.out.items ++ flat_map shared_state_bytes (zip (drop l.state l.set.accept) (drop l.state l.table.rows.items))
    ≡ l.fn.out.items ++ shared_table_bytes l.set.accept (shared_of l.table)
