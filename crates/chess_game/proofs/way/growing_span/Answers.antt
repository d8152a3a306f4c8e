use Rattle.std.proofs.Common.{◌≡◌, inl, inr, pos, arith}
use Rattle.std.proofs.lemmas.Int.{ints}
use Rattle.chess_game.proofs.WayLemmas.{doubled, rising}
use Rattle.chess_game.proofs.way.growing_span.Goals as goal

pub returns-then-axis-eq1-clause-span : goal.returns-then-axis-eq1-clause-span
returns-then-axis-eq1-clause-span c =
    λ t.
    let up : c.args.axis.step ≡ pos 1 = omega (arith, ints) in
    let same = rising t c.args.axis up in
    let span = c.rising_span.ensures.span t in
    (λ h. same.0 (span.0 h), λ h. span.1 (same.1 h))

pub returns-else-axis-eq1-clause-span : goal.returns-else-axis-eq1-clause-span
returns-else-axis-eq1-clause-span c =
    λ t.
    let up : c.args.axis.step ≡ pos 2 = elim c.requires.step [ inl one ↦ absurd (omega (arith, ints, one, c.if-axis-eq1.false)) | inr two ↦ two ] in
    let same = doubled t c.args.axis up in
    let span = c.doubled_span.ensures.span t in
    (λ h. same.0 (span.0 h), λ h. span.1 (same.1 h))
