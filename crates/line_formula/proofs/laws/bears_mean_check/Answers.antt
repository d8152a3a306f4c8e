use Rattle.line_formula.proofs.PathTheorem.{bears_mean_check}
use Rattle.line_formula.proofs.laws.bears_mean_check.Goals as goal

pub returns : goal.returns
returns c = bears_mean_check
