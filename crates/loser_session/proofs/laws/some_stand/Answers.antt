use Rattle.loser_session.proofs.Defending.{some_stand}
use Rattle.loser_session.proofs.laws.some_stand.Goals as goal

pub returns : goal.returns
returns c = some_stand
