use Rattle.std.proofs.Common.{◌≡◌, ◌+◌, ◌*◌, ◌<◌, ◌≤◌, ◌⊎◌, inl, inr, true, length, get_or, arith}
use Rattle.auto_search.specs.Met.{IsAfter}
use Rattle.auto_search.proofs.Rooms.{place-room, place-inside}
use Rattle.auto_search.proofs.Mets.{walk-none, walk-add, walk-skip}
use Rattle.auto_search.proofs.met.VisitTable.follow.Goals as goal
use Rattle.auto_search.proofs.met.VisitTable.follow.Goals.{in-None, in-Some, then-bit-via-then-bit, then-bit-via-else-bit+then-entry-starts}

pub slot_of-requires : goal.slot_of-requires
slot_of-requires c =
    let i = place-inside c.requires.place in
    let e = c.requires.entry in
    let s = i.1 in
    omega (arith, e, s)

pub state_of-requires : goal.state_of-requires
state_of-requires c =
    let i = place-inside c.requires.place in
    let e = c.requires.entry in
    let s = i.0 in
    omega (arith, e, s)

pub loop-slot-preserved : goal.loop-slot-preserved
loop-slot-preserved c =
    let old = c.args.self.now in
    let here = c.loop-slot.self in
    let may : (c.args.bit ≡ true) ⊎ (c.args.starts ≤ c.args.entry) =
    elim c.then-bit.branch
    [ then-bit-via-then-bit w ↦ inl w.if-bit.true | then-bit-via-else-bit+then-entry-starts w ↦ inr w.if-entry-starts.true ] in
    let after : IsAfter c.args.course.now.auto.now c.args.course.now.ray.now (get_or old.slots.items c.args.entry 0)
    (get_or old.states.items c.args.entry 0) c.args.bit c.after_entry-after.result =
    rw (← c.slot_of.ensures, ← c.state_of.ensures) c.after_entry-after.ensures.after in
    elim c.match-after-slot.branch [
      | in-None w ↦
          rw w.self-is
          (walk-none c.args.course.now.suits c.args.entry c.loop-slot.slot c.args.bit c.loop-slot.invariant c.requires.entry c.loop-slot-test.true may
          after c.after_entry-after.ensures.front w.in-None.is)
      | in-Some w ↦
          let state = w.in-Some.state in
          let known = c.after_entry-after.ensures.front.states c.loop-slot.slot state w.in-Some.is in
          let size = c.loop-slot.invariant.place.times_size in
          let inside : state * 9 + c.loop-slot.slot < length here.times.items = let t = c.loop-slot-test.true in omega (arith, known, size, t) in
          let room = place-room (state * 9 + c.loop-slot.slot) c.loop-slot.invariant.place inside in
          let in1 : (here.len < length here.states.items) ⊎ (2 ≤ get_or here.times.items (state * 9 + c.loop-slot.slot) 0) = elim room [ inl y ↦ inl y.0 | inr n ↦ inr n ] in
          let in2 : (here.len < length here.slots.items) ⊎ (2 ≤ get_or here.times.items (state * 9 + c.loop-slot.slot) 0) = elim room [ inl y ↦ inl y.1 | inr n ↦ inr n ] in
          rw w.self-is
          (walk-add c.args.course.now.suits c.args.entry c.loop-slot.slot c.args.bit c.loop-slot.invariant c.requires.entry c.loop-slot-test.true may
          after c.after_entry-after.ensures.front state w.in-Some.is w.add.ensures.adds w.add.ensures.place in1 in2)
    ]

pub returns-else-entry-starts : goal.returns-else-entry-starts
returns-else-entry-starts c =
    rw c.if-bit.false
    (walk-skip c.args.course.now.auto.now c.args.course.now.ray.now c.args.self.now.times.items c.args.self.now.states.items
    c.args.self.now.slots.items c.args.self.now.len c.args.starts c.args.entry c.requires.place c.requires.entry c.if-entry-starts.false)
