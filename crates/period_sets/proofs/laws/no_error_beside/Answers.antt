use Rattle.period_sets.proofs.Exclusion.{no-error-beside}
use Rattle.period_sets.proofs.laws.no_error_beside.Goals as goal

pub returns : goal.returns
returns c = λ a budget. no-error-beside a budget
