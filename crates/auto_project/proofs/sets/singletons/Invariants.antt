use Rattle.auto_project.proofs.Joins.{AreSingletonsSoFar}
use Rattle.auto_project.proofs.sets.singletons.Given as goal

abbrev pub invariant-loop-state : goal.invariant-loop-state
invariant-loop-state l = AreSingletonsSoFar l.sets l.state
