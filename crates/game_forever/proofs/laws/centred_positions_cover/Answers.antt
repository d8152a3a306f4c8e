use Rattle.game_forever.proofs.CentreLemmas.{centre_covers}
use Rattle.game_forever.proofs.laws.centred_positions_cover.Goals as goal

pub returns : goal.returns
returns g c = centre_covers g.W.PositionSet.has g.X.PositionSet.has
