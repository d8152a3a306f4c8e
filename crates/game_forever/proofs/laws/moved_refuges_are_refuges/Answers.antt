use Rattle.game_forever.proofs.MovedRules.{moved_is_refuge}
use Rattle.game_forever.proofs.laws.moved_refuges_are_refuges.Goals as goal

pub returns : goal.returns
returns g c = moved_is_refuge g.X.PositionSet.has
