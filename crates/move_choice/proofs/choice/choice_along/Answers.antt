use Rattle.move_choice.proofs.Firsts.{man_high}
use Rattle.move_choice.proofs.Slopes.{ray_slopes, slope_passed}
use Rattle.move_choice.proofs.choice.choice_along.Goals as goal

pub man-requires-clause-last : goal.man-requires-clause-last
man-requires-clause-last c = let m = c.args.along.now.mover in man_high c.args.along.now.aim.now.position.now c.args.along.now.his.man m.man m.is_man

pub moved-requires-clause-slope : goal.moved-requires-clause-slope
moved-requires-clause-slope c =
    let m = c.args.along.now.mover in slope_passed c.args.along.now.his.ray.dx (ray_slopes m.man.kind m.man.side c.args.along.now.his.number c.args.along.now.his.ray m.is_ray).x

pub moved-requires-in-At-clause-slope : goal.moved-requires-in-At-clause-slope
moved-requires-in-At-clause-slope c =
    let m = c.args.along.now.mover in slope_passed c.args.along.now.his.ray.dy (ray_slopes m.man.kind m.man.side c.args.along.now.his.number c.args.along.now.his.ray m.is_ray).y
