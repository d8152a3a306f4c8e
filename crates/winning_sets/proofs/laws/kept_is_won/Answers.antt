use Rattle.winning_sets.proofs.KeptGame.{kept_is_won}
use Rattle.winning_sets.proofs.laws.kept_is_won.Goals as goal

pub returns : goal.returns
returns c = kept_is_won
