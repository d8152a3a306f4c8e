use Rattle.game_forever.proofs.MovedRules.{moved_falls}
use Rattle.game_forever.proofs.laws.moved_ranks_fall.Goals as goal

pub returns : goal.returns
returns g c = moved_falls g.A.PositionSet.has
