use Rattle.std.proofs.Common.{get_or, arith}
use Rattle.auto_search.specs.Met.{IsAlone}
use Rattle.auto_search.proofs.Rooms.{place-inside}
use Rattle.auto_search.proofs.Tallies.{turn-counts}
use Rattle.auto_search.proofs.count.turn.Goals as goal

pub slot_of-requires : goal.slot_of-requires
slot_of-requires c =
    let i = place-inside c.requires.counting.place in
    let e = c.requires.entry in
    let s = i.1 in
    omega (arith, e, s)

pub state_of-requires : goal.state_of-requires
state_of-requires c =
    let i = place-inside c.requires.counting.place in
    let e = c.requires.entry in
    let s = i.0 in
    omega (arith, e, s)

pub returns-clause-counting : goal.returns-clause-counting
returns-clause-counting c =
    let m = c.args.room.now.met in
    let m1 = c.follow.new.self in
    let m2 = c.follow-2.new.self in
    let alone : IsAlone (get_or m.slots.items c.args.entry 0) (get_or m.states.items c.args.entry 0) c.alone-front.result =
    rw (← c.slot_of.ensures, ← c.state_of.ensures) c.alone-front.ensures.alone in
    rw c.plus.ensures
    (turn-counts c.args.course.now.suits m.times.items m.states.items m.slots.items
    m1.times.items m1.states.items m1.slots.items m2.times.items m2.states.items m2.slots.items m.len m1.len m2.len c.args.starts c.args.entry
    c.args.few c.several-more.result c.alone-front.result
    c.requires.counting c.requires.entry alone c.several-more.ensures.few c.follow.ensures c.follow-2.ensures)
