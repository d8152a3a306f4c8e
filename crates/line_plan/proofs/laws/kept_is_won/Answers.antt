use Rattle.line_plan.proofs.Keeps.{kept_is_won}
use Rattle.line_plan.proofs.laws.kept_is_won.Goals as goal

pub returns : goal.returns
returns c = kept_is_won
