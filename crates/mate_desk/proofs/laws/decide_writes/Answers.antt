use Rattle.mate_desk.proofs.Headline.{decide_writes}
use Rattle.mate_desk.proofs.laws.decide_writes.Goals as goal

pub returns : goal.returns
returns c = decide_writes
