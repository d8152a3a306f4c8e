use Rattle.move_choice.proofs.Firsts.{along_capture, along_quiet}
use Rattle.move_choice.proofs.ray_pick.along_ray.Goals as goal

pub returns-in-Some-clause-first : goal.returns-in-Some-clause-first
returns-in-Some-clause-first c = along_quiet c.args.along.now.aim.now.next c.args.along.now.aim.now.frame c.args.along.now.mover c.in-Some.choice c.in-Some.ensures.first

pub returns-in-None-clause-first : goal.returns-in-None-clause-first
returns-in-None-clause-first c =
    along_capture c.args.along.now.aim.now.next c.args.along.now.aim.now.frame c.args.along.now.mover c.in-None.ensures.first c.capture.result c.capture.ensures.first
