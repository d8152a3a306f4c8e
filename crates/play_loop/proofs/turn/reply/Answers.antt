use Rattle.std.proofs.Common.{Some, None, refl, codes}
use Rattle.std.proofs.KnownBytes.{Appends-nil}
use Rattle.std.proofs.lemmas.Result.{err_from_is_err_and}
use Rattle.chess_text.specs.declared.replies.Typed.TheVariants as typed
use Rattle.play_loop.specs.Turns.{OfLine, OfMove, stopped}
use Rattle.play_loop.specs.declared.ending.Ending.TheVariants.{Quit}
use Rattle.play_loop.proofs.Turning.{made_as, told_fails, told_made}
use Rattle.play_loop.proofs.turn.reply.Goals as goal

pub returns-in_err-put_all-in-Err-clause-comes : goal.returns-in_err-put_all-in-Err-clause-comes
returns-in_err-put_all-in-Err-clause-comes g c =
    let player = g.P.Player in
    let written = g.K.Sink.written in
    let now = player.seen c.args.player.now in
    let p = err_from_is_err_and c.from_residual.result c.from_residual.ensures.1 in
    told_fails (OfLine player.rules now c.args.line.now) (codes "unreadable\n") now (None, (c.in-Err.field-0, c.in-Err.ensures.refused), refl) now
    (written c.args.sink.now) (written c.put_all.new.sink) c.from_residual.result p.0 p.1 c.in_err-put_all-in-Err.ensures.err

pub returns-in-Ok-Quit-clause-comes : goal.returns-in-Ok-Quit-clause-comes
returns-in-Ok-Quit-clause-comes g c =
    let player = g.P.Player in
    let now = player.seen c.args.player.now in (
      stopped Quit now,
      (Some typed.Quit, (rw c.in-Ok-Quit.field-0-is at c.in-Ok-Quit.ensures.reply), refl),
      refl,
      refl,
      Appends-nil (g.K.Sink.written c.args.sink.now),
    )

pub returns-in-Ok-Move-clause-comes : goal.returns-in-Ok-Move-clause-comes
returns-in-Ok-Move-clause-comes g c =
    let player = g.P.Player in
    let written = g.K.Sink.written in
    let now = player.seen c.args.player.now in
    let mv = c.in-Ok-Move.mv in
    made_as (OfMove player.rules now mv) (OfLine player.rules now c.args.line.now)
    (λ t h. (Some (typed.Move mv), (rw c.in-Ok-Move.field-0-is at c.in-Ok-Move.ensures.reply), h)) c.make.result (player.seen c.make.new.player)
    (written c.args.sink.now) (written c.make.new.sink) c.make.ensures.comes

pub returns-in_ok-put_all-in-Err-clause-comes : goal.returns-in_ok-put_all-in-Err-clause-comes
returns-in_ok-put_all-in-Err-clause-comes g c =
    let player = g.P.Player in
    let written = g.K.Sink.written in
    let now = player.seen c.args.player.now in
    told_made (OfLine player.rules now c.args.line.now) (codes "unreadable\n") now (None, (c.in-Err.field-0, c.in-Err.ensures.refused), refl) now refl
    (written c.args.sink.now) (written c.put_all.new.sink) c.in_ok-put_all-in-Err.ensures.all
