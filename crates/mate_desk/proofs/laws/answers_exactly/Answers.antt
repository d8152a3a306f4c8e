use Rattle.mate_desk.proofs.Exact.{answers_exactly}
use Rattle.mate_desk.proofs.laws.answers_exactly.Goals as goal

pub returns : goal.returns
returns c = answers_exactly
