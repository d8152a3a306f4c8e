use Rattle.std.proofs.Common.{arith}
use Rattle.std.proofs.lemmas.Int.{ints}
use Rattle.auto_core.proofs.Assembled.{loss-is, loss-none}
use Rattle.auto_core.proofs.lin.loss_of.Goals as goal

pub returns-then-weight-lt0 : goal.returns-then-weight-lt0
returns-then-weight-lt0 c =
    let fits = c.ranges.weight in
    let h = c.if-weight-lt0.true in
    let low = c.requires.0 in
    let is = loss-is c.args.weight (omega (arith, ints, fits, h)) in
    omega (arith, ints, fits, h, low, is)

pub returns-else-weight-lt0 : goal.returns-else-weight-lt0
returns-else-weight-lt0 c =
    let fits = c.ranges.weight in
    let h = c.if-weight-lt0.false in
    loss-none c.args.weight (omega (arith, ints, fits, h))
