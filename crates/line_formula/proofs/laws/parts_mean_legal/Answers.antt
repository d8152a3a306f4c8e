use Rattle.line_formula.proofs.PathTheorem.{parts_mean_legal}
use Rattle.line_formula.proofs.laws.parts_mean_legal.Goals as goal

pub returns : goal.returns
returns c = parts_mean_legal
