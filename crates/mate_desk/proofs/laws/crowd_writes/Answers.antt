use Rattle.mate_desk.proofs.Crowds.{crowd_writes}
use Rattle.mate_desk.proofs.laws.crowd_writes.Goals as goal

pub returns : goal.returns
returns c = crowd_writes
