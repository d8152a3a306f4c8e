use Rattle.chess_game.proofs.RayLemmas.{count_rays}
use Rattle.chess_game.proofs.rays.ray_count.Goals as goal

pub returns : goal.returns
returns c =
    count_rays c.args.kind c.args.side c.far_steps-far.result.now c.near_steps-near.result.now (c.far_steps-far.ensures.steps c.args.side)
    c.near_steps-near.ensures.steps
