use Rattle.game_forever.proofs.CentreLemmas.{moved_movable}
use Rattle.game_forever.proofs.laws.moved_sets_are_movable.Goals as goal

pub returns : goal.returns
returns g c = moved_movable g.X.PositionSet.has
