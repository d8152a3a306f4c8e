use Rattle.game_forever.proofs.RefugeLemmas.{never_lost, never_mate, never_won}
use Rattle.game_forever.proofs.laws.refuges_are_never_won.Goals as goal

pub returns : goal.returns
returns g c =
    record {
      mate = λ winner. never_mate winner g.X.PositionSet.has;
      wins = λ winner. never_won winner g.X.PositionSet.has;
      losses = λ winner. never_lost winner g.X.PositionSet.has;
    }
