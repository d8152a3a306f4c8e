use Rattle.game_forever.proofs.RefugeLemmas.{cover_decided}
use Rattle.game_forever.proofs.laws.covered_sets_are_decided.Goals as goal

pub returns : goal.returns
returns g c =
    λ winner covers won refuge.
    cover_decided winner g.X.PositionSet.has refuge g.A.PositionSet.has g.W.PositionSet.has covers won
