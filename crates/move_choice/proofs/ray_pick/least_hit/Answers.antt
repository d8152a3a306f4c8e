use Rattle.std.proofs.Common.{◌∙◌}
use Rattle.move_choice.proofs.Firsts.{least_along}
use Rattle.move_choice.proofs.ray_pick.least_hit.Goals as goal

pub way_along-searched-requires : goal.way_along-searched-requires
way_along-searched-requires c = record { tuple = c.as_slice.ensures.value ∙ c.coordinates-tuple.ensures }

pub returns-clause-least : goal.returns-clause-least
returns-clause-least c =
    least_along c.args.set.now c.args.way.near c.args.way.far c.least_on_ray.result c.way_along-searched.ensures.along c.least_on_ray.ensures.least
