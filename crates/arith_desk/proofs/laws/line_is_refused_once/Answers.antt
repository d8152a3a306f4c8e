use Rattle.arith_desk.proofs.OneStop.{one_refusal}
use Rattle.arith_desk.proofs.laws.line_is_refused_once.Goals as goal

pub returns : goal.returns
returns c = one_refusal
