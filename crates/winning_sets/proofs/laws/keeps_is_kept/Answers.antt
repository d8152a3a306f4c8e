use Rattle.winning_sets.proofs.MeaningLaws.{keeps_kept}
use Rattle.winning_sets.proofs.laws.keeps_is_kept.Goals as goal

pub returns : goal.returns
returns c = keeps_kept
