use Rattle.std.proofs.Common.{arith, ◌∙◌, w32}
use Rattle.std.proofs.lemmas.Int.{ints, to_z-of_z}
use Rattle.auto_core.proofs.Assembled.{gain-is, gain-none}
use Rattle.auto_core.proofs.lin.gain_of.Goals as goal

pub returns-then-weight-gt0 : goal.returns-then-weight-gt0
returns-then-weight-gt0 c =
    let fits = c.ranges.weight in
    let h = c.if-weight-gt0.true in
    to_z-of_z w32 c.args.weight c.ranges.weight ∙ gain-is c.args.weight (omega (arith, ints, fits, h))

pub returns-else-weight-gt0 : goal.returns-else-weight-gt0
returns-else-weight-gt0 c =
    let fits = c.ranges.weight in
    let h = c.if-weight-gt0.false in
    gain-none c.args.weight (omega (arith, ints, fits, h))
