use Rattle.mate_desk.proofs.Crowds.{crowd_agrees}
use Rattle.mate_desk.proofs.laws.crowd_agrees.Goals as goal

pub returns : goal.returns
returns c = crowd_agrees
