use Rattle.loser_session.proofs.Matches.{stands_once}
use Rattle.loser_session.proofs.laws.one_stand.Goals as goal

pub returns : goal.returns
returns c = λ g one two h k. stands_once g one two h k
