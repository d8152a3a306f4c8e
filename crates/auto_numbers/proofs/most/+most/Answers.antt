use Rattle.std.proofs.Common.{◌≡◌, ◌-◌, suc, arith, rules}
use Rattle.auto_numbers.proofs.Searches.{not-none-zero, most-zero, most-high, most-rest}
use Rattle.auto_numbers.proofs.most.+most.Goals as goal

pub returns-then-bits-eq0 : goal.returns-then-bits-eq0
returns-then-bits-eq0 t c =
    let none = c.if-bits-eq0.true in
    let not = rw none at (c.leads.ensures.some (search rules)) in
    let is = not-none-zero c.args.outlook.now.auto.now c.args.outlook.now.flag c.args.state not in
    rw none (most-zero c.args.outlook.now.auto.now c.args.outlook.now.flag c.args.state is)

pub returns-in-Some : goal.returns-in-Some
returns-in-Some t c =
    let some = c.if-bits-eq0.false in
    let more : c.args.bits ≡ suc (c.args.bits - 1) = omega (arith, some) in
    rw c.power.ensures.is (most-high c.args.outlook.now.auto.now c.args.outlook.now.flag c.args.state more c.in-Some.found
    (rw c.next_states-zero.ensures.high at c.in-Some.ensures))

pub returns : goal.returns
returns t c =
    let some = c.if-bits-eq0.false in
    let more : c.args.bits ≡ suc (c.args.bits - 1) = omega (arith, some) in
    most-rest c.args.outlook.now.auto.now c.args.outlook.now.flag c.args.state more c.most-2.result
    (rw c.next_states-zero.ensures.high at c.in_default.ensures) (rw c.next_states-zero.ensures.low at c.most-2.ensures)
