use Rattle.std.proofs.Common.{◌∙◌}
use Rattle.move_choice.proofs.Firsts.{count_along}
use Rattle.move_choice.proofs.ray_moves.count_all.Goals as goal

pub way_along-searched-requires : goal.way_along-searched-requires
way_along-searched-requires c = record { tuple = c.as_slice.ensures.value ∙ c.coordinates-tuple.ensures }

pub returns-clause-few : goal.returns-clause-few
returns-clause-few c = count_along c.args.set.now c.count_on_ray.result c.way_along-searched.ensures.along c.count_on_ray.ensures.few
