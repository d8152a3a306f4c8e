use Rattle.game_forever.proofs.GrowthLemmas.{losses_stop, wins_stop}
use Rattle.game_forever.proofs.laws.wins_stop.Goals as goal

pub returns : goal.returns
returns g c =
    record {
      wins = λ winner n closed. wins_stop g.A.PositionSet.has closed winner n;
      losses = λ winner n closed. losses_stop g.A.PositionSet.has closed winner n;
    }
