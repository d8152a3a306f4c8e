use Rattle.std.proofs.Common.{◌≡◌, ◌++◌}
use Rattle.std.specs.Int.{w32, to_be_bytes}
use Rattle.auto_core.specs.Automaton.{next_state, width}
use Rattle.strategy_writer.specs.Written.{row_bytes}
use Rattle.strategy_writer.proofs.RangeLemmas.{with_rest}
use Rattle.strategy_writer.proofs.writing.push_next.Given as goal

abbrev pub invariant-loop-letter : goal.invariant-loop-letter
invariant-loop-letter l =
    with_rest (λ letter. to_be_bytes w32 (next_state l.set l.state letter)) l.out.items (width l.set) l.letter ≡ l.initial.out.items
    ++ row_bytes (width l.set) (next_state l.set l.state)
