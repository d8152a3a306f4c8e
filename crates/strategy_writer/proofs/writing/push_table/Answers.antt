use Rattle.std.proofs.Common.{◌<◌, ◌++◌, length}
use Rattle.strategy_writer.specs.Written.{state_bytes, table_bytes}
use Rattle.strategy_writer.proofs.RangeLemmas.{next_in_range}
use Rattle.strategy_writer.proofs.writing.push_table.Goals as goal

pub loop-state-preserved : goal.loop-state-preserved
loop-state-preserved c =
    let lt : c.loop-state.state < length c.args.set.now.accept = rw (← c.states-states.ensures.states) c.loop-state-test.true in
    rw c.in_ok-push_state.ensures
    (next_in_range (state_bytes c.args.set.now) c.loop-state.out.items (length c.args.set.now.accept) c.loop-state.state
    (c.args.out.now.items ++ table_bytes c.args.set.now) lt c.loop-state.invariant)
