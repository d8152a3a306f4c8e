use Rattle.arith_desk.proofs.OneStop.{formula_is_not_refused}
use Rattle.arith_desk.proofs.laws.formula_is_not_refused.Goals as goal

pub returns : goal.returns
returns c = formula_is_not_refused
