use Rattle.std.proofs.Common.{◌≡◌, ◌-◌, ◌*◌, ◌^◌, ◌<◌, suc, arith, rules}
use Rattle.auto_numbers.proofs.Searches.{not-none-zero, least-zero, least-high, none-high, least-low, least-across, none-both}
use Rattle.auto_numbers.proofs.least.+least.Goals as goal

pub returns-then-bits-eq0 : goal.returns-then-bits-eq0
returns-then-bits-eq0 t c =
    let none = c.if-bits-eq0.true in
    let low = c.requires.low in
    let not = rw none at (c.leads.ensures.some (search rules)) in
    let is = not-none-zero c.args.outlook.now.auto.now c.args.outlook.now.flag c.args.state not in
    rw none (least-zero c.args.outlook.now.auto.now c.args.outlook.now.flag c.args.state c.args.low (rw none at low) is)

pub least-requires : goal.least-requires
least-requires t c =
    let some = c.if-bits-eq0.false in
    let low = c.requires.low in
    let half = c.power-half.ensures.is in
    let more : c.args.bits ≡ suc (c.args.bits - 1) = omega (arith, some) in
    let twice : 2 ^ suc (c.args.bits - 1) ≡ 2 * 2 ^ (c.args.bits - 1) = omega arith in
    let low' : c.args.low < 2 ^ suc (c.args.bits - 1) = rw (← more) low in
    let few = c.requires.bits in
    let past = c.if-low-half.true in
    (omega (arith, some), (c.next_states-zero.ensures.high_within, (omega (arith, few), omega (arith, half, low', twice, past))))

pub returns-in-Some : goal.returns-in-Some
returns-in-Some t c =
    let some = c.if-bits-eq0.false in
    let more : c.args.bits ≡ suc (c.args.bits - 1) = omega (arith, some) in
    let half = c.power-half.ensures.is in
    let past = c.if-low-half.true in
    rw half (least-high c.args.outlook.now.auto.now c.args.outlook.now.flag c.args.state more c.args.low c.in-Some.found (rw half at past) (rw (half, c.next_states-zero.ensures.high) at c.in-Some.ensures))

pub returns-in-None : goal.returns-in-None
returns-in-None t c =
    let some = c.if-bits-eq0.false in
    let more : c.args.bits ≡ suc (c.args.bits - 1) = omega (arith, some) in
    let half = c.power-half.ensures.is in
    let past = c.if-low-half.true in
    none-high c.args.outlook.now.auto.now c.args.outlook.now.flag c.args.state more c.args.low (rw half at past) (rw (half, c.next_states-zero.ensures.high) at c.in-None.ensures)

pub returns-in-Some-least : goal.returns-in-Some-least
returns-in-Some-least t c =
    let some = c.if-bits-eq0.false in
    let more : c.args.bits ≡ suc (c.args.bits - 1) = omega (arith, some) in
    least-low c.args.outlook.now.auto.now c.args.outlook.now.flag c.args.state more c.args.low c.in-Some-least.found (rw c.next_states-zero.ensures.low at c.in-Some-least.ensures)

pub returns-in-Some-least-2 : goal.returns-in-Some-least-2
returns-in-Some-least-2 t c =
    let some = c.if-bits-eq0.false in
    let more : c.args.bits ≡ suc (c.args.bits - 1) = omega (arith, some) in
    let half = c.power-half.ensures.is in
    let under = c.if-low-half.false in
    rw half (least-across c.args.outlook.now.auto.now c.args.outlook.now.flag c.args.state more c.args.low c.in-Some-least-2.found (rw half at under)
    (rw c.next_states-zero.ensures.low at c.in_default.ensures) (rw c.next_states-zero.ensures.high at c.in-Some-least-2.ensures))

pub returns-in-None-least : goal.returns-in-None-least
returns-in-None-least t c =
    let some = c.if-bits-eq0.false in
    let more : c.args.bits ≡ suc (c.args.bits - 1) = omega (arith, some) in
    none-both c.args.outlook.now.auto.now c.args.outlook.now.flag c.args.state more c.args.low (rw c.next_states-zero.ensures.low at c.in_default.ensures) (rw c.next_states-zero.ensures.high at c.in-None-least.ensures)
