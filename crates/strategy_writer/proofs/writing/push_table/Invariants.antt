use Rattle.std.proofs.Common.{◌≡◌, ◌++◌, length}
use Rattle.strategy_writer.specs.Written.{state_bytes, table_bytes}
use Rattle.strategy_writer.proofs.RangeLemmas.{with_rest}
use Rattle.strategy_writer.proofs.writing.push_table.Given as goal

abbrev pub invariant-loop-state : goal.invariant-loop-state
invariant-loop-state l = with_rest (state_bytes l.set) l.out.items (length l.set.accept) l.state ≡ l.fn.out.items ++ table_bytes l.set
