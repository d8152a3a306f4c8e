use Rattle.winning_sets.proofs.MeaningLaws.{counted}
use Rattle.winning_sets.proofs.laws.moves_are_counted.Goals as goal

pub returns : goal.returns
returns c = counted
