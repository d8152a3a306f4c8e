use Rattle.std.proofs.Common.{◌≡◌, inl, refl, ap, subst, ◌∙◌}
use Rattle.std.specs.Io.KnownBytes.{Appends}
use Rattle.std.proofs.lemmas.Result.{err_from_is_err_and}
use Rattle.desk_base.specs.Moves.{AppendsFront}
use Rattle.play_loop.specs.Turns.{AtMove, move_line}
use Rattle.play_loop.specs.declared.ending.Ending.TheVariants.{Wide}
use Rattle.play_loop.proofs.Turning.{moved_fails, moved_made, moves_once, stopped_made}
use Rattle.play_loop.proofs.turn.answer.Goals as goal

pub returns-in_default-clause-comes : goal.returns-in_default-clause-comes
returns-in_default-clause-comes g c =
    let player = g.P.Player in
    let written = g.K.Sink.written in
    let now = player.seen c.args.player.now in
    let told = c.tell.ensures in
    stopped_made (AtMove player.rules now) Wide now (inl (c.in_default.ensures.none, refl)) (player.seen c.pick.new.self) c.in_default.ensures.unchanged
    c.tell.result (written c.args.sink.now) (written c.tell.new.sink) told.over told.told told.err

pub returns-in_err-put_all-clause-comes : goal.returns-in_err-put_all-clause-comes
returns-in_err-put_all-clause-comes g c =
    let player = g.P.Player in
    let written = g.K.Sink.written in
    let now = player.seen c.args.player.now in
    let next = player.seen c.pick.new.self in
    let mv = c.in-Some.mv in
    let line : c.as_slice.result.now ≡ move_line (player.rules.side next) mv =
    c.as_slice.ensures ∙ (c.move_line-line.ensures ∙ ap (λ s. move_line s mv) c.side.ensures) in
    let p = err_from_is_err_and c.from_residual.result c.from_residual.ensures.1 in
    let made = c.in-Some.ensures.made in
    moved_fails player.rules now next mv made player.is_kept g.met.P.Player.playable c.requires.kept c.requires.turn next (written c.args.sink.now) (written c.put_all.new.sink)
    c.from_residual.result p.0 p.1 (subst (AppendsFront (written c.args.sink.now) (written c.put_all.new.sink)) line c.in_err-put_all.ensures.err)

pub rest-requires : goal.rest-requires
rest-requires g c =
    let player = g.P.Player in
    let now = player.seen c.args.player.now in
    let next = player.seen c.pick.new.self in
    let mv = c.in-Some.mv in
    let made = c.in-Some.ensures.made in
    record { still = λ again. moves_once player.rules now next mv made player.is_kept g.met.P.Player.playable c.requires.kept c.requires.turn made again }

pub returns-clause-comes : goal.returns-clause-comes
returns-clause-comes g c =
    let player = g.P.Player in
    let written = g.K.Sink.written in
    let now = player.seen c.args.player.now in
    let next = player.seen c.pick.new.self in
    let mv = c.in-Some.mv in
    let line : c.as_slice.result.now ≡ move_line (player.rules.side next) mv =
    c.as_slice.ensures ∙ (c.move_line-line.ensures ∙ ap (λ s. move_line s mv) c.side.ensures) in
    let wrote = subst (Appends (written c.args.sink.now) (written c.put_all.new.sink)) line c.in_ok-put_all.ensures.all in
    moved_made player.rules now next mv c.in-Some.ensures.made c.rest.result (player.seen c.rest.new.player) (written c.args.sink.now) (written c.put_all.new.sink)
    (written c.rest.new.sink) wrote c.rest.ensures.comes
