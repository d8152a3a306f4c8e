use Rattle.mate_desk.proofs.Crowds.{crowd_decides}
use Rattle.mate_desk.proofs.laws.crowd_decides.Goals as goal

pub returns : goal.returns
returns c = crowd_decides
