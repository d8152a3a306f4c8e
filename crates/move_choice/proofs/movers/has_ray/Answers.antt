use Rattle.std.proofs.Common.{sym, ◌∙◌}
use Rattle.move_choice.proofs.HisRays.{idle_ray, live_ray}
use Rattle.move_choice.proofs.movers.has_ray.Goals as goal

pub returns-then-not-is_live_of : goal.returns-then-not-is_live_of
returns-then-not-is_live_of c =
    idle_ray c.args.p.now c.args.man c.args.number c.man-him.result c.man-him.ensures
    (λ live. c.is_live_of.ensures.no c.if-not-is_live_of.true (live.0 ∙ sym c.turn.ensures, live.1))

pub returns : goal.returns
returns c =
    let live = c.is_live_of.ensures.yes c.if-not-is_live_of.false in
    live_ray c.args.p.now c.args.man c.args.number c.man-him.result c.man-him.ensures (live.0 ∙ c.turn.ensures, live.1) c.ray.result c.is_some.result c.is_some.ensures c.ray.ensures
