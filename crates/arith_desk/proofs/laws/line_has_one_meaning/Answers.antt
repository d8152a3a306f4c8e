use Rattle.arith_desk.proofs.OneStop.{one_meaning}
use Rattle.arith_desk.proofs.laws.line_has_one_meaning.Goals as goal

pub returns : goal.returns
returns c = one_meaning
