use Rattle.mate_desk.proofs.StatusLaws.{usage_exactly}
use Rattle.mate_desk.proofs.laws.usage_exactly.Goals as goal

pub returns : goal.returns
returns c = usage_exactly
