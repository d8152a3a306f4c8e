use Rattle.std.proofs.Common.{◌≡◌, sym, ap, ◌∙◌}
use Rattle.std.proofs.lemmas.Option.{same_Some}
use Rattle.game_rules.specs.Rays.{serves_moves}
use Rattle.move_choice.proofs.Firsts.{quiet_none_served}
use Rattle.move_choice.proofs.ray_pick.quiet_if_served.Goals as goal

pub returns-then-not-serves_moves-clause-first : goal.returns-then-not-serves_moves-clause-first
returns-then-not-serves_moves-clause-first c =
    let m = c.args.along.now.mover in
    let same : m.man ≡ c.man-kind.result = same_Some m.man c.man-kind.result (sym m.is_man ∙ c.man-kind.ensures) in
    quiet_none_served c.args.along.now.aim.now.next c.args.along.now.aim.now.frame m
    (ap (λ k. serves_moves k.kind c.args.along.now.his.number) same ∙ (sym c.serves_moves.ensures ∙ c.if-not-serves_moves.true))
