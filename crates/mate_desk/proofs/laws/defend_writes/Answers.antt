use Rattle.mate_desk.proofs.Told.{defend_writes}
use Rattle.mate_desk.proofs.laws.defend_writes.Goals as goal

pub returns : goal.returns
returns c = defend_writes
