use Rattle.std.proofs.Common.{◌<◌, ◌++◌, length}
use Rattle.auto_nodes.specs.Nodes.{shared_of}
use Rattle.strategy_writer.specs.SharedWritten.{shared_table_bytes}
use Rattle.strategy_writer.proofs.SharedWriting.{next_state}
use Rattle.strategy_writer.proofs.writing_shared.push_shared_table.Goals as goal

pub loop-state-preserved : goal.loop-state-preserved
loop-state-preserved c =
    let accept = c.args.set.now.accept in
    let lt : c.loop-state.state < length accept = rw (← c.states-state-end.ensures.states) c.loop-state-test.true in
    rw (c.in_ok-push_shared_state.ensures, c.accept_of.ensures, c.as_slice-rows.ensures.value)
    (next_state accept c.args.table.now.rows.items c.loop-state.out.items c.loop-state.state (c.args.out.now.items ++ shared_table_bytes accept (shared_of c.args.table.now)) c.loop-state.invariant lt c.requires.rows)
