use Rattle.game_forever.proofs.GrowthLemmas.{stopped, stopped_lost}
use Rattle.game_forever.proofs.laws.stopped_sets_are_decided.Goals as goal

pub returns : goal.returns
returns g c =
    record {
      wins = λ winner n closed. stopped g.A.PositionSet.has closed winner n;
      losses = λ winner n closed. stopped_lost g.A.PositionSet.has closed winner n;
    }
