use Rattle.move_choice.proofs.Firsts.{man_high, man_low, met_number}
use Rattle.move_choice.proofs.ray_moves.last_before.Goals as goal

pub man-requires-clause-first : goal.man-requires-clause-first
man-requires-clause-first c =
    let w = met_number c.args.along.now.aim.now.position.now c.args.along.now.his.man c.args.along.now.his.ray c.args.along.now.aim.now.frame c.args.hit c.requires.hit in
    man_low c.args.along.now.aim.now.position.now c.args.hit w.0 w.2

pub man-requires-clause-last : goal.man-requires-clause-last
man-requires-clause-last c =
    let w = met_number c.args.along.now.aim.now.position.now c.args.along.now.his.man c.args.along.now.his.ray c.args.along.now.aim.now.frame c.args.hit c.requires.hit in
    man_high c.args.along.now.aim.now.position.now c.args.hit w.0 w.2
