use Rattle.move_choice.proofs.Counted.{none_captured, one_captured}
use Rattle.move_choice.proofs.ray_moves.count_captures.Goals as goal

pub returns-in-Some : goal.returns-in-Some
returns-in-Some c = record {
  few = one_captured c.args.along.now.aim.now.sets.now c.args.along.now.mover c.args.along.now.aim.now.frame c.requires.holds c.args.along.now.aim.now.next _ c.in-Some.ensures.first;
}

pub returns-in-None : goal.returns-in-None
returns-in-None c = record {
  few = none_captured c.args.along.now.aim.now.sets.now c.args.along.now.mover c.args.along.now.aim.now.frame c.requires.holds c.in-None.ensures.first;
}
