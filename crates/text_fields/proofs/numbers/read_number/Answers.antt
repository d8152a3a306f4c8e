use Rattle.std.proofs.Common.{to_z, of_z, ◌≡◌, sym, subst, ap, ◌∙◌}
use Rattle.std.specs.Int.{w64}
use Rattle.std.specs.Str.{IsUtf8}
use Rattle.std.specs.Fmt.{signed_decimal}
use Rattle.std.proofs.lemmas.Int.{to_z-of_z}
use Rattle.std.proofs.lemmas.Str.{IsUtf8-from_ascii}
use Rattle.std.proofs.lemmas.Fmt.{IsAscii-signed, parse-signed_decimal}
use Rattle.std.proofs.lemmas.Slice.Eq.{bytes_eq-Decides}
use Rattle.text_fields.proofs.Signed.{small}
use Rattle.text_fields.proofs.numbers.read_number.Goals as goal

pub returns-in-Err-clause-none : goal.returns-in-Err-clause-none
returns-in-Err-clause-none c = λ is.
    c.in-Err.ensures.cases.0 (subst IsUtf8 (sym is.spelled) (IsUtf8-from_ascii _ (IsAscii-signed is.number (small is.number is.fits))))

pub returns-in-Err-parse-clause-none : goal.returns-in-Err-parse-clause-none
returns-in-Err-parse-clause-none c = λ is.
    let parsed =
    parse-signed_decimal w64 is.number c.in-Ok.text.now c.parse.result is.fits (small is.number is.fits) (c.in-Ok.ensures.cases.0 ∙ is.spelled) c.parse.ensures.value.0 in
    let failed = c.in-Err-parse.is in cc

pub returns-else-eq-clause-none : goal.returns-else-eq-clause-none
returns-else-eq-clause-none c = λ is.
    let parsed =
    parse-signed_decimal w64 is.number c.in-Ok.text.now c.parse.result is.fits (small is.number is.fits) (c.in-Ok.ensures.cases.0 ∙ is.spelled) c.parse.ensures.value.0 in
    let number : c.in-Ok-parse.number ≡ is.number = let e = sym c.in-Ok-parse.is ∙ parsed in cc in
    let same : c.format.result.now ≡ c.in-Ok.text.now =
    c.format.ensures.text ∙ ap (λ z. signed_decimal (to_z w64 (of_z w64 z))) number ∙ ap signed_decimal (to_z-of_z w64 is.number is.fits)
    ∙ sym is.spelled ∙ sym c.in-Ok.ensures.cases.0 in
    let yes' = (bytes_eq-Decides c.format.result.now c.in-Ok.text.now).1 same in
    let no' = sym c.eq.ensures ∙ c.if-eq.false in
    cc
