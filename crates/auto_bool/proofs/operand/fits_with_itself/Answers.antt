use Rattle.std.proofs.lemmas.Bool.{leb-true}
use Rattle.auto_bool.proofs.OperandLemmas.{both-itself, either-itself, neither-itself}
use Rattle.auto_bool.proofs.operand.fits_with_itself.Goals as goal

pub returns-clause-both : goal.returns-clause-both
returns-clause-both c = λ fit.
    both-itself c.args.a.now c.states.ensures.valid c.args.budget
    (rw (← c.states.ensures.states, ← c.states-2.ensures.is) (leb-true c.states.result c.states-2.result fit))

pub returns-clause-either : goal.returns-clause-either
returns-clause-either c = λ fit.
    either-itself c.args.a.now c.states.ensures.valid c.args.budget
    (rw (← c.states.ensures.states, ← c.states-2.ensures.is) (leb-true c.states.result c.states-2.result fit))

pub returns-clause-neither : goal.returns-clause-neither
returns-clause-neither c = λ fit.
    neither-itself c.args.a.now c.states.ensures.valid c.args.budget
    (rw (← c.states.ensures.states, ← c.states-2.ensures.is) (leb-true c.states.result c.states-2.result fit))
