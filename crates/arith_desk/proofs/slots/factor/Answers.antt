use Rattle.std.proofs.Common.{◌≡◌, pos}
use Rattle.std.specs.Fmt.{signed_decimal}
use Rattle.arith_desk.specs.Line.{texts}
use Rattle.arith_desk.specs.Stops.{IsFactorField}
use Rattle.arith_desk.proofs.ReadLemmas.{fails_front, no_factor}
use Rattle.arith_desk.proofs.Signed.{zero_of_bits}
use Rattle.arith_desk.proofs.slots.factor.Goals as goal

pub returns-then-number-eq0-clause-err : goal.returns-then-number-eq0-clause-err
returns-then-number-eq0-clause-err c =
    let zero_is : c.in_ok-number.number ≡ pos 0 = zero_of_bits c.in_ok-number.number c.in_ok-number.ensures.low c.in_ok-number.ensures.high c.if-number-eq0.true in
    rw c.stop_at.ensures
    (fails_front IsFactorField (texts c.args.fields.now) (signed_decimal c.in_ok-number.number) (texts c.in_ok-number.rest.now) c.in_ok-number.ensures.ok (no_factor c.in_ok-number.number zero_is))
