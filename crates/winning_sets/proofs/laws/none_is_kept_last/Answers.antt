use Rattle.winning_sets.proofs.MeaningLaws.{none_last}
use Rattle.winning_sets.proofs.laws.none_is_kept_last.Goals as goal

pub returns : goal.returns
returns c = none_last
