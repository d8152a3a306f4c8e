use Rattle.strategy_writer.proofs.LargestSets.{most_states_of}
use Rattle.strategy_writer.proofs.largest.largest_set.Goals as goal

pub returns : goal.returns
returns c = most_states_of c.args.claim.now c.largest_of.result (rw c.as_slice.ensures.value at c.largest_of.ensures.within) (rw c.as_slice.ensures.value at c.largest_of.ensures.least)
