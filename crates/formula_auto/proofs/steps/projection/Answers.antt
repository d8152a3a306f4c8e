use Rattle.formula_auto.proofs.SameAutomata.{ex_to_same}
use Rattle.formula_auto.proofs.steps.projection.Goals as goal

pub returns-clause-decides : goal.returns-clause-decides
returns-clause-decides c = ex_to_same c.args.var c.in_ok-merged.ensures.same c.in_ok-c.ensures.decides

pub returns-clause-accessible : goal.returns-clause-accessible
returns-clause-accessible c = c.in_ok-merged.ensures.accessible c.args.budget c.in_ok-c.ensures.accessible
