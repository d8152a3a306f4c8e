use Rattle.std.proofs.Common.{take}
use Rattle.std.specs.List.{All}
use Rattle.loser_session.proofs.Rooms.{HasAtMost}
use Rattle.loser_session.proofs.room.most_in.Given as goal

abbrev pub invariant-loop-set : goal.invariant-loop-set
invariant-loop-set l = All (HasAtMost l.most) (take l.set-index l.sets)
