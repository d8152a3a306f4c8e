use Rattle.auto_refine.proofs.Refinings.{IsCoarsest-refined}
use Rattle.auto_refine.proofs.partition.coarsest.Goals as goal

pub returns-clause-coarsest : goal.returns-clause-coarsest
returns-clause-coarsest c = rw c.partition_of.ensures (IsCoarsest-refined c.in_ok-refine.ensures)
