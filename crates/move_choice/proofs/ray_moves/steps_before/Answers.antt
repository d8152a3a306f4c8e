use Rattle.move_choice.proofs.Meets.{before_hit}
use Rattle.move_choice.proofs.ray_moves.steps_before.Goals as goal

pub overflow_sub-result : goal.overflow_sub-result
overflow_sub-result c =
    (before_hit c.args.along.now.mover c.requires.met c.steps_of.result c.steps_of.ensures.steps).0

pub returns-clause-clear : goal.returns-clause-clear
returns-clause-clear c =
    (before_hit c.args.along.now.mover c.requires.met c.steps_of.result c.steps_of.ensures.steps).1
