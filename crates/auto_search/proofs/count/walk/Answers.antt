use Rattle.std.proofs.Common.{arith}
use Rattle.auto_search.proofs.Rooms.{place-inside}
use Rattle.auto_search.proofs.Tallies.{more-meets, all-counted, counting-entered}
use Rattle.auto_search.proofs.count.walk.Goals as goal

pub returns-then-entry-room-clause-few : goal.returns-then-entry-room-clause-few
returns-then-entry-room-clause-few c =
    let k = c.loop-entry.invariant.counting in
    all-counted c.args.course.now.suits k (let e = k.enough in let h = c.if-entry-room.true in omega (arith, e, h))

pub returns-in-More-clause-few : goal.returns-in-More-clause-few
returns-in-More-clause-few c = rw c.in-More.is (more-meets c.args.course.now.suits c.turn-few.ensures.counting c.in-More.is)

pub returns-clause-few : goal.returns-clause-few
returns-clause-few c =
    let k = c.loop-entry.invariant.counting in
    let i = place-inside k.place in
    let s = i.1 in
    let z = c.loop-entry.invariant.size in
    all-counted c.args.course.now.suits k (let e = k.enough in let h = c.loop-entry-test.false in omega (arith, e, h, s, z))

pub returns-then-entry-room-clause-entered : goal.returns-then-entry-room-clause-entered
returns-then-entry-room-clause-entered c = counting-entered c.loop-entry.invariant.counting

pub returns-in-More-clause-entered : goal.returns-in-More-clause-entered
returns-in-More-clause-entered c = counting-entered c.turn-few.ensures.counting

pub returns-clause-entered : goal.returns-clause-entered
returns-clause-entered c = counting-entered c.loop-entry.invariant.counting
