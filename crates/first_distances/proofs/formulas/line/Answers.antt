use Rattle.std.proofs.Common.{arith}
use Rattle.first_distances.proofs.MoverLemmas.{his_dx, his_dy, his_high}
use Rattle.first_distances.proofs.formulas.line.Goals as goal

pub gone_along-requires-clause-high : goal.gone_along-requires-clause-high
gone_along-requires-clause-high c =
    let high = his_high c.requires in
    let count = c.count.ensures.count in
    let most = c.count.ensures.most in
    omega (arith, high, count, most)

pub gone_along-requires-clause-across : goal.gone_along-requires-clause-across
gone_along-requires-clause-across c = his_dx c.requires

pub gone_along-requires-clause-along : goal.gone_along-requires-clause-along
gone_along-requires-clause-along c = his_dy c.requires
