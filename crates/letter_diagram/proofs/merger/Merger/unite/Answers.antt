use Rattle.std.proofs.Common.{length, ap, arith, rules}
use Rattle.letter_diagram.specs.Merger.{MergerTables}
use Rattle.letter_diagram.proofs.Splittings.{room_for-le}
use Rattle.letter_diagram.proofs.Mergings.{RemembersMerged-grows, RemembersUnited-nothing}
use Rattle.letter_diagram.proofs.merger.Merger.unite.Goals as goal

pub united-requires-clause-room : goal.united-requires-clause-room
united-requires-clause-room c =
    let room = room_for-le c.self.inside.diagrams c.args.a c.args.b in
    let same = ap (λ (t : MergerTables). length t.sets) c.self.view_is in
    let before = c.requires.room in
    omega (arith, room, same, before)

pub returns-in-Ok-clause-few : goal.returns-in-Ok-clause-few
returns-in-Ok-clause-few c =
    let room = room_for-le c.self.inside.diagrams c.args.a c.args.b in
    let same = ap (λ (t : MergerTables). length t.sets) c.self.view_is in
    let used = c.in-Ok.ensures.room in
    omega (arith, room, same, used)

pub invariant_of-self : goal.invariant_of-self
invariant_of-self c = (c.self.invariant.0, RemembersMerged-grows c.in-Ok.ensures.grows c.in-Ok.ensures.sets c.self.invariant.1, c.in-Ok.ensures.remembered)

pub invariant_of-self-in-Err : goal.invariant_of-self-in-Err
invariant_of-self-in-Err c = (c.self.invariant.0, search rules, RemembersUnited-nothing c.clear-in-Err.ensures)
