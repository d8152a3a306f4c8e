use Rattle.move_choice.proofs.Once.{pick_once}
use Rattle.loser_session.specs.Defending.{IsNextUnwon}
use Rattle.loser_session.proofs.laws.one_pick.Goals as goal

pub returns : goal.returns
returns c = λ g. pick_once (IsNextUnwon g) g.frame g.position
