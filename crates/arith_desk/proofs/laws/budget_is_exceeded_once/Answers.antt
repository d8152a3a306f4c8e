use Rattle.arith_desk.proofs.OneAnswer.{one_excess}
use Rattle.arith_desk.proofs.laws.budget_is_exceeded_once.Goals as goal

pub returns : goal.returns
returns c = one_excess
