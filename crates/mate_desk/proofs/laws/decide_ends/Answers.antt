use Rattle.mate_desk.proofs.Told.{decide_ends}
use Rattle.mate_desk.proofs.laws.decide_ends.Goals as goal

pub returns : goal.returns
returns c = decide_ends
