use Rattle.std.proofs.Common.{◌+◌, ◌*◌, ◌<◌, length, inl, inr, arith}
use Rattle.std.proofs.lemmas.List.{get_or_read}
use Rattle.auto_search.proofs.Rooms.{place-room}
use Rattle.auto_search.proofs.met.VisitTable.add.Goals as goal

room : (c : goal.After-put-arg-1) → (c.args.self.now.len < length c.args.self.now.states.items) × (c.args.self.now.len < length c.args.self.now.slots.items)
room c =
    let m = c.args.self.now in
    let at = c.args.state * 9 + c.args.slot in
    let within : at < length m.times.items = let s = c.requires.state in let t = c.requires.slot in let z = c.requires.place.times_size in omega (arith, s, t, z) in
    let e = get_or_read m.times.items at c.index.result.now within c.index.ensures 0 in
    elim (place-room at c.requires.place within) [
      | inl left ↦ left
      | inr twice ↦ let t = c.if-index-lt-MOST_TIMES.true in absurd (omega (arith, t, e, twice))
    ]

pub put-requires-clause-states : goal.put-requires-clause-states
put-requires-clause-states c = (room c).0

pub put-requires-clause-slots : goal.put-requires-clause-slots
put-requires-clause-slots c = (room c).1
