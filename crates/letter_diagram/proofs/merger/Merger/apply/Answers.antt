use Rattle.std.proofs.Common.{length, ap, arith, rules}
use Rattle.letter_diagram.specs.Merger.{MergerTables}
use Rattle.letter_diagram.proofs.Splittings.{room_for-le}
use Rattle.letter_diagram.proofs.Mergings.{RemembersUnited-nothing}
use Rattle.letter_diagram.proofs.merger.Merger.apply.Goals as goal

pub merged-requires-clause-room : goal.merged-requires-clause-room
merged-requires-clause-room c =
    let room = room_for-le c.self.inside.diagrams c.args.a c.args.a in
    let same = ap (λ (t : MergerTables). length t.sets) c.self.view_is in
    let before = c.requires.room in
    omega (arith, room, same, before)

pub returns-in-Ok-clause-few : goal.returns-in-Ok-clause-few
returns-in-Ok-clause-few c =
    let room = room_for-le c.self.inside.diagrams c.args.a c.args.a in
    let same = ap (λ (t : MergerTables). length t.sets) c.self.view_is in
    let used = c.in-Ok.ensures.room in
    omega (arith, room, same, used)

pub invariant_of-self-in-Err : goal.invariant_of-self-in-Err
invariant_of-self-in-Err c = (c.self.invariant.0, search rules, RemembersUnited-nothing c.clear-in-Err.ensures)
