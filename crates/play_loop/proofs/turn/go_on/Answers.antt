use Rattle.std.proofs.Common.{[], inl, inr, refl, subst}
use Rattle.std.proofs.KnownBytes.{Appends-nil}
use Rattle.play_loop.specs.Turns.{AtMove, Comes}
use Rattle.play_loop.proofs.Turning.{made_as, stopped_made, told_made}
use Rattle.play_loop.proofs.turn.go_on.Goals as goal

pub returns-in-Over-clause-comes : goal.returns-in-Over-clause-comes
returns-in-Over-clause-comes g c =
    let player = g.P.Player in
    let written = g.K.Sink.written in
    let now = player.seen c.args.player.now in
    let told = c.tell.ensures in
    stopped_made (Comes player.rules now) c.in-Over.ending now (inl (inl (c.in-Over.ending, c.in-Over.ensures.stands, refl))) (player.seen c.stand.new.self) c.stand.ensures.same
    c.tell.result (written c.args.sink.now) (written c.tell.new.sink) told.over told.told told.err

pub returns-in-LineDue-clause-comes : goal.returns-in-LineDue-clause-comes
returns-in-LineDue-clause-comes g c =
    let player = g.P.Player in
    let written = g.K.Sink.written in
    let now = player.seen c.args.player.now in
    told_made (Comes player.rules now) [] now (inl (inr (c.in-LineDue.ensures.stands, refl))) (player.seen c.stand.new.self) c.stand.ensures.same
    (written c.args.sink.now) (written c.args.sink.now) (Appends-nil (written c.args.sink.now))

pub returns-in-ToMove-clause-comes : goal.returns-in-ToMove-clause-comes
returns-in-ToMove-clause-comes g c =
    let player = g.P.Player in
    let written = g.K.Sink.written in
    let now = player.seen c.args.player.now in
    let same = c.stand.ensures.same in
    made_as (AtMove player.rules (player.seen c.stand.new.self)) (Comes player.rules now)
    (λ t h. inr (c.in-ToMove.ensures.stands, subst (λ (x : player.Seen). AtMove player.rules x t) same h)) c.answer.result (player.seen c.answer.new.player)
    (written c.args.sink.now) (written c.answer.new.sink) c.answer.ensures.comes
