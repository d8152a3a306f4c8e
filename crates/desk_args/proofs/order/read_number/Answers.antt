use Rattle.std.proofs.Common.{◌<◌, ◌^◌, refl, subst, arith}
use Rattle.std.specs.Str.Parse.{digits_value}
use Rattle.desk_args.specs.Order.{IsNaturalText}
use Rattle.desk_args.proofs.Words.{no_number}
use Rattle.desk_args.proofs.order.read_number.Goals as goal

pub returns-in-Err : goal.returns-in-Err
returns-in-Err c =
    let word = c.args.word.now in
    let text : IsNaturalText word = subst IsNaturalText c.as_bytes.ensures.value (c.is_natural.ensures.0 (rw c.if-not-is_natural.false refl)) in
    let large : digits_value 10 word < 2 ^ 64 → _ = no_number word c.in-Err.field-0 text c.in-Err.ensures.value.0 in
    (digits_value 10 word, record { text = text; value = refl }, λ low high. large (omega (arith, high, c.ranges.high.fits)))
