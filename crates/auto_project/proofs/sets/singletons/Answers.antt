use Rattle.std.proofs.Common.{◌≡◌, arith, subst}
use Rattle.auto_project.specs.SetMaps.{AreSingletons}
use Rattle.auto_project.proofs.Joins.{AreSingletonsSoFar-push, AreSingletons-all, AreSingletonsSoFar-none}
use Rattle.auto_project.proofs.sets.singletons.Goals as goal

pub loop-state-init : goal.loop-state-init
loop-state-init c = AreSingletonsSoFar-none _ c.new-sets.ensures

pub loop-state-preserved : goal.loop-state-preserved
loop-state-preserved c = AreSingletonsSoFar-push _ _ c.in_ok-number_of.ensures.numbers c.in_ok-number_of.ensures.number c.loop-state.invariant

pub returns : goal.returns
returns c = let all : c.loop-state.state ≡ c.args.states = omega arith in subst (AreSingletons c.loop-state.sets) all (AreSingletons-all c.loop-state.invariant)
