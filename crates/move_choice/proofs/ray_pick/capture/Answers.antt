use Rattle.move_choice.proofs.Firsts.{capture_none_met, man_high, met_number}
use Rattle.move_choice.proofs.ray_pick.capture.Goals as goal

pub returns-in_default : goal.returns-in_default
returns-in_default c = record {
  first = capture_none_met c.args.along.now.aim.now.next c.args.along.now.aim.now.frame c.args.along.now.mover c.args.along.now.aim.now.sound (rw c.in_default.is at c.requires.met);
}

pub man-requires-clause-last : goal.man-requires-clause-last
man-requires-clause-last c =
    let p = c.args.along.now.aim.now.position.now in
    let w = met_number p c.args.along.now.his.man c.args.along.now.his.ray c.args.along.now.aim.now.frame c.in-Some.hit (rw c.in-Some.is at c.requires.met) in
    man_high p c.in-Some.hit w.0 w.2
