use Rattle.std.proofs.Common.{arith}
use Rattle.std.proofs.Math.Pow.{pow_mono}
use Rattle.letter_diagram.proofs.leaves.with_bit.Goals as goal

pub overflow_add-result : goal.overflow_add-result
overflow_add-result c = let pow = pow_mono {i = c.args.track} {j = 20} (omega arith) in omega (arith, pow)
