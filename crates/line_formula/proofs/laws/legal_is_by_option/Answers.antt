use Rattle.line_formula.proofs.PathTheorem.{legal_is_by_option}
use Rattle.line_formula.proofs.laws.legal_is_by_option.Goals as goal

pub returns : goal.returns
returns c = legal_is_by_option
