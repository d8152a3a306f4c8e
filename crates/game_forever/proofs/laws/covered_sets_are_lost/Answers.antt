use Rattle.game_forever.proofs.GrowthLemmas.{cover_lost}
use Rattle.game_forever.proofs.laws.covered_sets_are_lost.Goals as goal

pub returns : goal.returns
returns g c = λ winner n closed. cover_lost g.A.PositionSet.has closed winner n
