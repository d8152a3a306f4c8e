use Rattle.game_forever.proofs.CentreLemmas.{centre_is_enough}
use Rattle.game_forever.proofs.laws.centred_positions_are_enough.Goals as goal

pub returns : goal.returns
returns g c = centre_is_enough g.P.PositionSet.has
