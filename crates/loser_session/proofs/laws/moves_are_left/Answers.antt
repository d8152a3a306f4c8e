use Rattle.loser_session.proofs.Defending.{none_moves}
use Rattle.loser_session.proofs.laws.moves_are_left.Goals as goal

pub returns : goal.returns
returns c = λ g keeps on turn moves none. none_moves g keeps on none moves
