use Rattle.line_formula.proofs.SmallRays.{small_ray}
use Rattle.line_formula.proofs.men.ray_at.Goals as goal

pub returns-in-Some-clause-small : goal.returns-in-Some-clause-small
returns-in-Some-clause-small c = small_ray c.man_of-man.result.kind c.man_of-man.result.side c.args.number c.in-Some.ray c.in-Some.ensures
