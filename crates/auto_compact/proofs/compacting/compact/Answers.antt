use Rattle.auto_compact.proofs.Compacted.{DecidesIntegers-same, AllReached-same, IsReduced-same}
use Rattle.auto_compact.proofs.compacting.compact.Goals as goal

pub returns-clause-integers : goal.returns-clause-integers
returns-clause-integers c = DecidesIntegers-same _ _ c.in_ok-compacted.ensures

pub returns-clause-reached : goal.returns-clause-reached
returns-clause-reached c = AllReached-same _ _ c.in_ok-compacted.ensures

pub returns-clause-reduced : goal.returns-clause-reduced
returns-clause-reduced c = IsReduced-same _ _ c.in_ok-compacted.ensures
