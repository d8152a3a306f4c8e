use Rattle.mate_desk.proofs.Headline.{first_writes}
use Rattle.mate_desk.proofs.laws.first_writes.Goals as goal

pub returns : goal.returns
returns c = first_writes
