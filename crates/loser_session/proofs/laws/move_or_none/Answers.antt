use Rattle.loser_session.proofs.FirstSteps.{moves_known}
use Rattle.loser_session.proofs.laws.move_or_none.Goals as goal

pub returns : goal.returns
returns c = moves_known
