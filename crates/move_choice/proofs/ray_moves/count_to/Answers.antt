use Rattle.move_choice.specs.Aims.{IsHitAlong}
use Rattle.move_choice.proofs.Counted.{more_to, none_to, one_to}
use Rattle.move_choice.proofs.ray_moves.count_to.Goals as goal

pub returns-in_default-clause-few : goal.returns-in_default-clause-few
returns-in_default-clause-few c = none_to (IsHitAlong c.args.set.now c.args.along.now.aim.now.position.now c.args.along.now.his.man c.args.along.now.his.ray) c.args.last c.in_default.ensures.least

pub returns-in-Some-least_hit-clause-few : goal.returns-in-Some-least_hit-clause-few
returns-in-Some-least_hit-clause-few c =
    more_to (IsHitAlong c.args.set.now c.args.along.now.aim.now.position.now c.args.along.now.his.man c.args.along.now.his.ray) c.args.last c.in-Some.ensures.least c.in-Some-least_hit.ensures.least

pub returns-in-None-clause-few : goal.returns-in-None-clause-few
returns-in-None-clause-few c =
    one_to (IsHitAlong c.args.set.now c.args.along.now.aim.now.position.now c.args.along.now.his.man c.args.along.now.his.ray) c.args.last c.in-Some.ensures.least c.in-None.ensures.least
