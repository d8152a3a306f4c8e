use Rattle.winning_sets.proofs.MeaningLaws.{plan_means}
use Rattle.winning_sets.proofs.laws.plan_is_kept.Goals as goal

pub returns : goal.returns
returns c = plan_means
