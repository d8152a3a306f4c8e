use Rattle.mate_desk.proofs.Headline.{least_writes}
use Rattle.mate_desk.proofs.laws.least_writes.Goals as goal

pub returns : goal.returns
returns c = least_writes
