use Rattle.loser_session.proofs.Defending.{first_defence}
use Rattle.loser_session.proofs.laws.start_is_defence.Goals as goal

pub returns : goal.returns
returns c = λ s f plan valid none. first_defence s f plan valid none
