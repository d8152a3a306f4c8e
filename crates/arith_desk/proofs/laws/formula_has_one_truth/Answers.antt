use Rattle.arith_desk.proofs.OneAnswer.{one_truth}
use Rattle.arith_desk.proofs.laws.formula_has_one_truth.Goals as goal

pub returns : goal.returns
returns c = one_truth
