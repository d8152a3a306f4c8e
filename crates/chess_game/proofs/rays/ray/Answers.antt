use Rattle.std.proofs.Common.{◌∙◌, arith}
use Rattle.chess_game.proofs.RayLemmas.{ray_first, ray_second}
use Rattle.chess_game.proofs.rays.ray.Goals as goal

pub returns-then-index-far : goal.returns-then-index-far
returns-then-index-far c =
    c.nth_ray.ensures
    ∙ ray_first c.args.kind c.args.side c.args.index c.far_steps-far.result.now (c.far_steps-far.ensures.steps c.args.side) c.if-index-far.true

pub returns : goal.returns
returns c =
    c.nth_ray-2.ensures
    ∙ ray_second c.args.kind c.args.side c.args.index c.far_steps-far.result.now (c.far_steps-far.ensures.steps c.args.side)
    c.near_steps-near.result.now c.near_steps-near.ensures.steps (omega (arith, c.if-index-far.false))
