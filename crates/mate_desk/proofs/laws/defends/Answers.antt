use Rattle.mate_desk.proofs.Defended.{defends}
use Rattle.mate_desk.proofs.laws.defends.Goals as goal

pub returns : goal.returns
returns c = defends
