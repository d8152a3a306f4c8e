use Rattle.game_forever.proofs.GrowthLemmas.{unwon_refuge}
use Rattle.game_forever.proofs.laws.unwon_positions_are_a_refuge.Goals as goal

pub returns : goal.returns
returns g c = λ winner n closed. unwon_refuge g.A.PositionSet.has closed winner n
