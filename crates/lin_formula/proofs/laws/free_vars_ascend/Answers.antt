use Rattle.lin_formula.proofs.FreeVars.{free_vars-ascend}
use Rattle.lin_formula.proofs.laws.free_vars_ascend.Goals as goal

pub returns : goal.returns
returns c = free_vars-ascend
