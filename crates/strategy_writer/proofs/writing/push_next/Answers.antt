use Rattle.std.proofs.Common.{◌<◌, ◌++◌}
use Rattle.std.specs.Int.{w32, to_be_bytes}
use Rattle.auto_core.specs.Automaton.{next_state, width}
use Rattle.strategy_writer.specs.Written.{row_bytes}
use Rattle.strategy_writer.proofs.RangeLemmas.{next_in_range}
use Rattle.strategy_writer.proofs.writing.push_next.Goals as goal

pub loop-letter-preserved : goal.loop-letter-preserved
loop-letter-preserved c =
    let lt : c.loop-letter.letter < width c.args.set.now = rw (← c.letters_of-letter-end.ensures) c.loop-letter-test.true in
    rw (c.in_ok-extend_from_slice.ensures.items, c.to_be_bytes.ensures, c.next_of-next.ensures.state)
    (next_in_range (λ letter. to_be_bytes w32 (next_state c.args.set.now c.args.state letter)) c.loop-letter.out.items (width c.args.set.now) c.loop-letter.letter
    (c.args.out.now.items ++ row_bytes (width c.args.set.now) (next_state c.args.set.now c.args.state)) lt c.loop-letter.invariant)
