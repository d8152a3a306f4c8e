use Rattle.auto_bool.proofs.StayingStates.{IsSink-first}
use Rattle.auto_bool.proofs.sink.deciding_states.Goals as goal

pub returns-clause-deciding_states : goal.returns-clause-deciding_states
returns-clause-deciding_states c = record {
  left = IsSink-first (rw c.left_deciding.ensures at c.sink.ensures);
  right = IsSink-first (rw c.right_deciding.ensures at c.sink-2.ensures);
}
