use Rattle.winning_sets.proofs.MeaningLaws.{forward_means}
use Rattle.winning_sets.proofs.laws.forward_is_reach.Goals as goal

pub returns : goal.returns
returns c = forward_means
