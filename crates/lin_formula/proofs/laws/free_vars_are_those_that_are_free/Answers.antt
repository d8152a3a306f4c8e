use Rattle.lin_formula.proofs.FreeVars.{free_vars-free}
use Rattle.lin_formula.proofs.laws.free_vars_are_those_that_are_free.Goals as goal

pub returns : goal.returns
returns c = free_vars-free
