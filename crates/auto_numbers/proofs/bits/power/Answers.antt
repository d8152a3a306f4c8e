use Rattle.std.proofs.Common.{◌≤◌, ◌^◌, arith}
use Rattle.std.proofs.lemmas.Nat.{one_shl}
use Rattle.std.proofs.Math.Nat.{pow-le-pow_right}
use Rattle.auto_numbers.proofs.bits.power.Goals as goal

pub returns-clause-small : goal.returns-clause-small
returns-clause-small c =
    let few = c.requires in
    let p : 2 ^ c.args.exponent ≤ 2 ^ 101 = pow-le-pow_right {n = 2} (omega arith) {i = c.args.exponent} {j = 101} few in
    let e = one_shl c.args.exponent 128 (omega (arith, few)) in
    omega (arith, p, e)
