use Rattle.loser_session.proofs.Rooms.{HaveAtMostTo}
use Rattle.loser_session.proofs.room.most_states.Given as goal

abbrev pub invariant-loop-ply : goal.invariant-loop-ply
invariant-loop-ply l = HaveAtMostTo l.most l.solved l.plies l.ply
