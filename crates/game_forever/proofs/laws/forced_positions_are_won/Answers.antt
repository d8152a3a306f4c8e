use Rattle.game_forever.proofs.ForcesLemmas.{forced_won}
use Rattle.game_forever.proofs.laws.forced_positions_are_won.Goals as goal

pub returns : goal.returns
returns g c = λ winner. forced_won winner g.T.PositionSet.has
