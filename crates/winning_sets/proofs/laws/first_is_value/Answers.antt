use Rattle.winning_sets.proofs.MeaningLaws.{first_means}
use Rattle.winning_sets.proofs.laws.first_is_value.Goals as goal

pub returns : goal.returns
returns c = first_means
