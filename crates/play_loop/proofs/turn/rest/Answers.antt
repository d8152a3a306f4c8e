use Rattle.std.proofs.Common.{[], inl, inr, refl}
use Rattle.std.proofs.KnownBytes.{Appends-nil}
use Rattle.play_loop.specs.Turns.{AtRest}
use Rattle.play_loop.proofs.Turning.{stopped_made, told_made}
use Rattle.play_loop.proofs.turn.rest.Goals as goal

pub returns-in-Over-clause-comes : goal.returns-in-Over-clause-comes
returns-in-Over-clause-comes g c =
    let player = g.P.Player in
    let written = g.K.Sink.written in
    let now = player.seen c.args.player.now in
    let told = c.tell.ensures in
    stopped_made (AtRest player.rules now) c.in-Over.ending now (inl (c.in-Over.ending, c.in-Over.ensures.stands, refl)) (player.seen c.stand.new.self) c.stand.ensures.same
    c.tell.result (written c.args.sink.now) (written c.tell.new.sink) told.over told.told told.err

pub returns-in-LineDue-clause-comes : goal.returns-in-LineDue-clause-comes
returns-in-LineDue-clause-comes g c =
    let player = g.P.Player in
    let written = g.K.Sink.written in
    let now = player.seen c.args.player.now in
    told_made (AtRest player.rules now) [] now (inr (c.in-LineDue.ensures.stands, refl)) (player.seen c.stand.new.self) c.stand.ensures.same
    (written c.args.sink.now) (written c.args.sink.now) (Appends-nil (written c.args.sink.now))
