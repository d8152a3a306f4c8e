use Rattle.std.proofs.lemmas.List.Elements.{All-more}
use Rattle.shift_image.specs.Read.{Leaves}
use Rattle.shift_image.proofs.Loops.{all-whole}
use Rattle.shift_image.proofs.movable.all_leave.Goals as goal

pub loop-shift-preserved : goal.loop-shift-preserved
loop-shift-preserved c =
    All-more (Leaves c.args.vars.now) c.args.shifts.now c.loop-shift.shift-index _ c.loop-shift-test.true
    c.loop-shift.invariant (c.leaves.ensures c.if-not-leaves.false)

pub returns : goal.returns
returns c = λ is. all-whole (Leaves c.args.vars.now) c.args.shifts.now c.loop-shift.shift-index c.loop-shift-test.false c.loop-shift.invariant
