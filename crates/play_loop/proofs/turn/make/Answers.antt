use Rattle.std.proofs.Common.{inl, refl, codes}
use Rattle.std.proofs.lemmas.Result.{err_from_is_err_and}
use Rattle.play_loop.specs.Turns.{OfMove}
use Rattle.play_loop.proofs.Turning.{reply_made, told_fails, told_made}
use Rattle.play_loop.proofs.turn.make.Goals as goal

pub returns-in_err-put_all-in-Err-clause-comes : goal.returns-in_err-put_all-in-Err-clause-comes
returns-in_err-put_all-in-Err-clause-comes g c =
    let player = g.P.Player in
    let written = g.K.Sink.written in
    let now = player.seen c.args.player.now in
    let p = err_from_is_err_and c.from_residual.result c.from_residual.ensures.1 in
    told_fails (OfMove player.rules now c.args.mv) (codes "illegal\n") now (inl (c.in-Err.ensures.illegal, refl)) (player.seen c.typed.new.self)
    (written c.args.sink.now) (written c.put_all.new.sink) c.from_residual.result p.0 p.1 c.in_err-put_all-in-Err.ensures.err

pub returns-in-Ok-clause-comes : goal.returns-in-Ok-clause-comes
returns-in-Ok-clause-comes g c =
    let player = g.P.Player in
    let written = g.K.Sink.written in
    reply_made player.rules (player.seen c.args.player.now) (player.seen c.typed.new.self) c.args.mv c.in-Ok.ensures.legal c.in-Ok.ensures.after
    c.go_on.result (player.seen c.go_on.new.player) (written c.args.sink.now) (written c.go_on.new.sink) c.go_on.ensures.comes

pub returns-in_ok-put_all-in-Err-clause-comes : goal.returns-in_ok-put_all-in-Err-clause-comes
returns-in_ok-put_all-in-Err-clause-comes g c =
    let player = g.P.Player in
    let written = g.K.Sink.written in
    let now = player.seen c.args.player.now in
    told_made (OfMove player.rules now c.args.mv) (codes "illegal\n") now (inl (c.in-Err.ensures.illegal, refl)) (player.seen c.typed.new.self) c.in-Err.ensures.unchanged
    (written c.args.sink.now) (written c.put_all.new.sink) c.in_ok-put_all-in-Err.ensures.all
