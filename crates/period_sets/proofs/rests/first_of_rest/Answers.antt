use Rattle.period_sets.proofs.RestLemmas.{rest-here, rest-next}
use Rattle.period_sets.proofs.rests.first_of_rest.Goals as goal

pub returns-then-own-rest-clause-rest : goal.returns-then-own-rest-clause-rest
returns-then-own-rest-clause-rest c =
    let p = c.from-period.ensures in
    let r = c.from-rest.ensures in
    let le = c.if-own-rest.true in
    rw (p, r) (rest-here c.args.start.period c.args.start.from c.args.rest c.requires.rest (rw (p, r) at le))

pub returns-else-own-rest-clause-rest : goal.returns-else-own-rest-clause-rest
returns-else-own-rest-clause-rest c =
    let p = c.from-period.ensures in
    let r = c.from-rest.ensures in
    let less = c.if-own-rest.false in
    rw (p, r) (rest-next c.args.start.period c.args.start.from c.args.rest c.requires.rest (rw (p, r) at less))
