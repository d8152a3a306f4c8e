use Rattle.mate_desk.proofs.StatusLaws.{memory_last}
use Rattle.mate_desk.proofs.laws.memory_last.Goals as goal

pub returns : goal.returns
returns c = memory_last
