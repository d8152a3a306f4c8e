use Rattle.std.proofs.Common.{arith}
use Rattle.std.proofs.lemmas.Result.{on_ok_weaker}
use Rattle.letter_diagram.proofs.Splittings.{room_for-le}
use Rattle.letter_diagram.proofs.Mergings.{RemembersUnited-nothing}
use Rattle.letter_diagram.proofs.diagrams.Diagrams.merge_track.Goals as goal

pub merged-requires-clause-united : goal.merged-requires-clause-united
merged-requires-clause-united c = RemembersUnited-nothing c.new-united.ensures

pub merged-requires-clause-room : goal.merged-requires-clause-room
merged-requires-clause-room c = let room = room_for-le c.args.self.now c.args.a c.args.a in omega (arith, room)

pub returns-clause-few : goal.returns-clause-few
returns-clause-few c =
    let room = room_for-le c.args.self.now c.args.a c.args.a in
    on_ok_weaker c.merged.result (λ used. omega (arith, room, used)) c.merged.ensures.room
