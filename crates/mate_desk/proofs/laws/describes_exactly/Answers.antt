use Rattle.mate_desk.proofs.FirstMoves.{describes_exactly}
use Rattle.mate_desk.proofs.laws.describes_exactly.Goals as goal

pub returns : goal.returns
returns c = describes_exactly
