use Rattle.loser_session.proofs.FirstSteps.{first_is_free}
use Rattle.loser_session.proofs.laws.first_step_is_free.Goals as goal

pub returns : goal.returns
returns c = first_is_free
