use Rattle.period_sets.proofs.Exclusion.{one-error}
use Rattle.period_sets.proofs.laws.one_error.Goals as goal

pub returns : goal.returns
returns c = λ a budget. one-error a budget
