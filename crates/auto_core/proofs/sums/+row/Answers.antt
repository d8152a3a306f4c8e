use Rattle.std.proofs.Common.{arith, ◌≡◌, ◌+◌, ◌<◌, ℕ, ℤ, ◌+ℤ◌, length, sym, ◌∙◌, subst, List, All, get_or, pos, refl, ◌≤◌, Some, w32, to_z, of_z}
use Rattle.std.proofs.lemmas.Int.{ints, to_z-of_z}
use mir.Val.{SFits}
use Rattle.auto_core.specs.Sums.{IsSumRow, IsNear, IsSmall, StandsFor, key_eq}
use Rattle.std.specs.HashMap.{Updates}
use Rattle.letter_diagram.proofs.Maps.{Grows-trans}
use Rattle.auto_core.proofs.Grown.{chosen-grows}
use Rattle.auto_core.proofs.SumRows.{IsSumRow-grows, RemembersSums-grows, RemembersSums-insert, IsSumRow-leaf, IsSumRow-test}
use Rattle.auto_core.proofs.sums.+row.Goals as goal

pub returns-in-Some-clause-row : goal.returns-in-Some-clause-row
returns-in-Some-clause-row t c =
    subst (λ s. IsSumRow c.args.diagrams.now c.args.weights.now c.args.span c.args.track s c.in-Some.node.now) (to_z-of_z w32 c.args.sum c.ranges.sum)
    (c.requires.remembered.rows c.args.track (to_z w32 (of_z w32 c.args.sum)) c.in-Some.node.now (sym c.in-Some.ensures.value))

pub returns-then-track-weights-clause-remembered : goal.returns-then-track-weights-clause-remembered
returns-then-track-weights-clause-remembered t c = RemembersSums-grows c.in_ok-node.ensures.grows c.requires.remembered

near-same : {track : ℕ} {sum : ℤ} → SFits w32 sum → IsNear track sum → IsNear (track + 1) (to_z w32 (of_z w32 sum))
near-same fits near = let low = near.low in let high = near.high in record { low = omega (arith, ints, low); high = omega (arith, ints, high) }

pub row-requires : goal.row-requires
row-requires t c = (omega arith, (c.requires.few, (c.requires.small, (c.requires.span, (omega arith, (near-same c.ranges.sum c.requires.near, c.requires.remembered))))))

IsStep : ℕ → ℤ → ℤ → Type 0
IsStep track sum weight = (to_z w32 (of_z w32 (to_z w32 (of_z w32 sum) +ℤ to_z w32 (of_z w32 weight))) ≡ sum +ℤ weight) × IsNear (track + 1) (sum +ℤ weight)

stepped : (track : ℕ) {sum : ℤ} (weight : ℤ) → track ≤ 8 → IsNear track sum → IsSmall weight → IsStep track sum weight
unfolding IsStep
stepped track weight few near small =
    let low = near.low in
    let high = near.high in
    let down = small.0 in
    let top = small.1 in
    (omega (arith, ints, low, high, down, top, few), record { low = omega (arith, ints, low, down); high = omega (arith, ints, high, top) })

step-same : (track : ℕ) (sum weight : ℤ) → IsStep track sum weight → to_z w32 (of_z w32 (to_z w32 (of_z w32 sum) +ℤ to_z w32 (of_z w32 weight))) ≡ sum +ℤ weight
unfolding IsStep
step-same track sum weight is = is.0

step-near : (track : ℕ) (sum weight : ℤ) → IsStep track sum weight → IsNear (track + 1) (to_z w32 (of_z w32 (to_z w32 (of_z w32 sum) +ℤ to_z w32 (of_z w32 weight))))
unfolding IsStep
step-near track sum weight is = rw is.0 is.1

small-at : (weights : List ℤ) (track : ℕ) → All IsSmall weights → track < length weights → IsSmall (get_or weights track (pos 0))
small-at weights track small h = small track (pos 0) h

pub row-requires-2 : goal.row-requires-2
row-requires-2 t c =
    let le = c.requires.track in
    let ne = c.if-track-weights.false in
    let few = c.requires.few in
    let below : c.args.track < length c.args.weights.now = grind (arith, ne, le) in
    let step =
    stepped c.args.track (get_or c.args.weights.now c.args.track (pos 0)) (omega (arith, below, few)) c.requires.near
    (small-at c.args.weights.now c.args.track c.requires.small below) in
    (omega (arith, below), (c.requires.few, (c.requires.small, (c.requires.span, (omega (arith, below), (step-near _ _ _ step, c.in_ok-low.ensures.remembered))))))

pub returns-then-track-weights-clause-row : goal.returns-then-track-weights-clause-row
returns-then-track-weights-clause-row t c =
    let few = c.requires.few in
    let le = c.requires.track in
    IsSumRow-leaf _ _ _ _ c.if-track-weights.true (omega (arith, le, few)) c.in_ok-node.ensures.known c.in_ok-node.ensures.map
    c.in_ok-node.ensures.top (subst (λ s. StandsFor c.args.span s c.state_of.result) (to_z-of_z w32 c.args.sum c.ranges.sum) c.state_of.ensures)

made : (t : ℕ) (c : goal.In_ok-insert t) → IsSumRow c.node.new.self c.args.weights.now c.args.span c.args.track c.args.sum c.in_ok-node-2.node
made t c =
    let le = c.requires.track in
    let ne = c.if-track-weights.false in
    let few = c.requires.few in
    let below : c.args.track < length c.args.weights.now = grind (arith, ne, le) in
    let step =
    stepped c.args.track (get_or c.args.weights.now c.args.track (pos 0)) (omega (arith, below, few)) c.requires.near
    (small-at c.args.weights.now c.args.track c.requires.small below) in
    let from_high = c.in_ok-node-2.ensures.grows in
    let from_low = Grows-trans c.in_ok-high.ensures.grows from_high in
    let low = IsSumRow-grows from_low c.in_ok-low.ensures.row in
    let high = IsSumRow-grows from_high c.in_ok-high.ensures.row in
    let longer = c.in_ok-high.ensures.grows.longer in
    let first_known = c.in_ok-low.ensures.row.known in
    let low_known : c.in_ok-low.low < length c.row-2.new.diagrams = omega (arith, longer, first_known) in
    let high_known = c.in_ok-high.ensures.row.known in
    IsSumRow-test _ (get_or c.args.weights.now c.args.track (pos 0)) c.in_ok-low.low c.in_ok-high.high _ below refl
    c.in_ok-node-2.ensures.known c.in_ok-node-2.ensures.top
    (λ letter. c.in_ok-node-2.ensures.map letter ∙ chosen-grows _ _ _ letter low_known high_known from_high)
    (rw (to_z-of_z w32 c.args.sum c.ranges.sum) at low) (rw (step-same _ _ _ step) at high)

pub returns-clause-row : goal.returns-clause-row
returns-clause-row t c = made t c

pub returns-clause-remembered : goal.returns-clause-remembered
returns-clause-remembered t c =
    RemembersSums-insert _ (RemembersSums-grows c.in_ok-node-2.ensures.grows c.in_ok-high.ensures.remembered)
    (subst (λ s. Updates key_eq c.row-2.new.memo c.insert.new.self (c.args.track, s) (Some c.in_ok-node-2.node)) (to_z-of_z w32 c.args.sum c.ranges.sum) c.in_ok-insert.ensures.updates) (made t c)

pub returns-clause-grows : goal.returns-clause-grows
returns-clause-grows t c = Grows-trans c.in_ok-low.ensures.grows (Grows-trans c.in_ok-high.ensures.grows c.in_ok-node-2.ensures.grows)
