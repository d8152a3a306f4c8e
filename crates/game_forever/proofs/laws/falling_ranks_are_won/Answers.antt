use Rattle.game_forever.proofs.ForcesLemmas.{ranked_won, ranked_won_to}
use Rattle.game_forever.proofs.laws.falling_ranks_are_won.Goals as goal

pub returns : goal.returns
returns g c =
    record {
      to_mate = λ winner. ranked_won winner g.A.PositionSet.has;
      to_wins = λ winner. ranked_won_to winner g.A.PositionSet.has;
    }
