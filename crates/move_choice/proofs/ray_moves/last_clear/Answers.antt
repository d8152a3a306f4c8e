use Rattle.move_choice.proofs.Meets.{clear_far, clear_near}
use Rattle.move_choice.proofs.ray_moves.last_clear.Goals as goal

pub returns-then-his-clause-all : goal.returns-then-his-clause-all
returns-then-his-clause-all c =
    clear_far c.args.along.now.mover c.args.along.now.aim.now.sound.apart c.requires.holds (rw c.in-None.is at c.requires.met) c.if-his.true

pub returns-else-his-clause-last : goal.returns-else-his-clause-last
returns-else-his-clause-last c =
    clear_near c.args.along.now.mover c.args.along.now.aim.now.sound.apart c.requires.holds (rw c.in-None.is at c.requires.met) c.if-his.false
