use Rattle.std.proofs.Common.{sym, ◌∙◌, arith}
use Rattle.std.proofs.lemmas.Int.{ints}
use Rattle.text_fields.proofs.Signed.{same_number}
use Rattle.arith_desk.proofs.Signed.{between_fits}
use Rattle.arith_desk.proofs.words.number_between.Goals as goal

pub returns-then-number-from-clause-none : goal.returns-then-number-from-clause-none
returns-then-number-from-clause-none c = λ n low high is.
    let fits = between_fits c.args.low n c.args.high c.ranges.low.sfits c.ranges.high.sfits low high in
    let same = same_number c.in_ok-number.number n c.in_ok-number.ensures.fits fits (sym c.in_ok-number.ensures.some ∙ is) in
    absurd (omega (arith, ints))

pub returns-then-number-from-2-clause-none : goal.returns-then-number-from-2-clause-none
returns-then-number-from-2-clause-none c = λ n low high is.
    let fits = between_fits c.args.low n c.args.high c.ranges.low.sfits c.ranges.high.sfits low high in
    let same = same_number c.in_ok-number.number n c.in_ok-number.ensures.fits fits (sym c.in_ok-number.ensures.some ∙ is) in
    absurd (omega (arith, ints))
