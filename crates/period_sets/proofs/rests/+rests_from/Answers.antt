use Rattle.std.proofs.Common.{arith}
use Rattle.auto_numbers.specs.Numbers.{Has}
use Rattle.period_sets.proofs.RestLemmas.{rests-end, rests-more}
use Rattle.period_sets.proofs.rests.+rests_from.Goals as goal

pub returns-then-rest-start : goal.returns-then-rest-start
returns-then-rest-start t c =
    rests-end (Has c.args.set.now.auto.now) c.args.start c.requires.start c.args.rest c.if-rest-start.true

pub returns : goal.returns
returns t c =
    let le = c.requires.rest in
    let ne = c.if-rest-start.false in
    rests-more (Has c.args.set.now.auto.now) c.args.start c.requires.start c.args.rest c.first_of_rest-number.result c.own_bit.result c.rests_from.result
    (omega (arith, le, ne)) c.first_of_rest-number.ensures.from c.first_of_rest-number.ensures.near c.first_of_rest-number.ensures.rest
    c.own_bit.ensures.bit c.own_bit.ensures.is c.rests_from.ensures
