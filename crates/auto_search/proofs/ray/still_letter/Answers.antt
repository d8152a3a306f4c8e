use Rattle.std.proofs.Common.{◌≡◌, ◌≤◌, ◌+◌, ◌-◌, ◌*◌, ℕ, arith, sym, ◌∙◌}
use Rattle.auto_search.proofs.Sums.{letter-parts}
use Rattle.auto_search.proofs.ray.still_letter.Goals as goal

-- what is left of a whole whose two parts are taken away
left : (rest whole a b u v p q bx by : ℕ) → rest + bx * p + by * q ≡ whole → a ≡ bx → b ≡ by → u ≡ p → v ≡ q
    → (a * u ≤ whole) × (b * v ≤ whole - a * u) × (whole - a * u - b * v + bx * p + by * q ≡ whole)
left rest whole a b u v p q bx by e h1 h2 h3 h4 = rw (h1, h2, h3, h4) (omega (arith, e), omega (arith, e), omega (arith, e))

pub overflow_sub-result : goal.overflow_sub-result
overflow_sub-result c =
    let way = c.args.way.now in
    let parts = letter-parts way.fixed.now way.x_track way.y_track c.args.place c.requires.way.x_track c.requires.way.y_track c.requires.way.apart in
    (left _ c.letter_at-whole.result c.bit_of_track.result c.bit_of_track-2.result c.unit_of.result c.unit_of-2.result _ _ _ _
    (parts ∙ sym c.letter_at-whole.ensures.letter) c.bit_of_track.ensures.bit c.bit_of_track-2.ensures.bit c.unit_of.ensures
    c.unit_of-2.ensures).0

pub overflow_sub-result-2 : goal.overflow_sub-result-2
overflow_sub-result-2 c =
    let way = c.args.way.now in
    let parts = letter-parts way.fixed.now way.x_track way.y_track c.args.place c.requires.way.x_track c.requires.way.y_track c.requires.way.apart in
    (left _ c.letter_at-whole.result c.bit_of_track.result c.bit_of_track-2.result c.unit_of.result c.unit_of-2.result _ _ _ _
    (parts ∙ sym c.letter_at-whole.ensures.letter) c.bit_of_track.ensures.bit c.bit_of_track-2.ensures.bit c.unit_of.ensures
    c.unit_of-2.ensures).1

pub returns : goal.returns
returns c =
    let way = c.args.way.now in
    let parts = letter-parts way.fixed.now way.x_track way.y_track c.args.place c.requires.way.x_track c.requires.way.y_track c.requires.way.apart in
    let h =
    (left _ c.letter_at-whole.result c.bit_of_track.result c.bit_of_track-2.result c.unit_of.result c.unit_of-2.result _ _ _ _
    (parts ∙ sym c.letter_at-whole.ensures.letter) c.bit_of_track.ensures.bit c.bit_of_track-2.ensures.bit c.unit_of.ensures
    c.unit_of-2.ensures).2 in
    h ∙ c.letter_at-whole.ensures.letter
