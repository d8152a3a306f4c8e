use Rattle.std.proofs.Common.{rules, arith}
use Rattle.auto_numbers.proofs.MaskLemmas.{mask-now}
use Rattle.auto_numbers.proofs.outlook.own_bit.Goals as goal

pub returns-then-accept_of-flag-clause-mask : goal.returns-then-accept_of-flag-clause-mask
returns-then-accept_of-flag-clause-mask c =
    mask-now c.args.a.now c.args.flag c.args.state 1 (omega arith) (λ set. search rules) (λ clear. absurd (omega (arith, clear)))

pub returns-else-accept_of-flag-clause-mask : goal.returns-else-accept_of-flag-clause-mask
returns-else-accept_of-flag-clause-mask c =
    mask-now c.args.a.now c.args.flag c.args.state 0 (omega arith) (λ set. absurd (omega (arith, set))) (λ _. search rules)
