use Rattle.mate_desk.proofs.Exact.{decides_exactly}
use Rattle.mate_desk.proofs.laws.decides_exactly.Goals as goal

pub returns : goal.returns
returns c = decides_exactly
