use Rattle.mate_desk.proofs.Told.{play_writes}
use Rattle.mate_desk.proofs.laws.play_writes.Goals as goal

pub returns : goal.returns
returns c = play_writes
