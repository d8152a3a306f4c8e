use Rattle.std.proofs.Common.{arith, ℕ, sym}
use Rattle.letter_diagram.specs.Carried.{Carries, RemembersCarried}
use Rattle.letter_diagram.proofs.Maps.{Grows-trans}
use Rattle.letter_diagram.proofs.Carryings.{Carries-grows, Carries-leaf, Carries-test, CanBeCarried-grows, CanBeCarried-low, CanBeCarried-high, track-within, RemembersCarried-grows, RemembersCarried-learns}
use Rattle.letter_diagram.proofs.carry.+rebuilt.Given.{Over}
use Rattle.letter_diagram.proofs.carry.+rebuilt.Goals as goal
use Rattle.letter_diagram.proofs.carry.+rebuilt.Goals.{In_ok-remember, in-Leaf+in_ok-made-in-Leaf, in-Test+in_ok-low-in-Test+in_ok-high-in-Test+in_ok-made-in-Test}

pub returns-in-Some-clause-rebuilt : goal.returns-in-Some-clause-rebuilt
returns-in-Some-clause-rebuilt g t c = c.requires.remembered.rebuilt _ _ (sym c.in-Some.ensures)

pub leaf-requires : goal.leaf-requires
leaf-requires g t c =
    let m = c.in-Leaf.ensures.at.map 0 in
    rw (← m) (c.requires.can.values 0)

pub rebuilt-requires : goal.rebuilt-requires
rebuilt-requires g t c κs within =
    let e = c.in-Test.ensures in
    let before = e.fits.low_before in
    (omega (arith, before, c.decreases), (within.0, (within.1, (CanBeCarried-low c.in-Test.track c.in-Test.low c.in-Test.high e.diagram e.at e.fits c.requires.can, c.requires.remembered))))

pub rebuilt-requires-in-Test : goal.rebuilt-requires-in-Test
rebuilt-requires-in-Test g t c κs within =
    let e = c.in-Test.ensures in
    let before = e.fits.high_before in
    let low = c.in_ok-low-in-Test.ensures in (
      omega (arith, before, c.decreases),
      (within.0, (within.1, (CanBeCarried-grows low.grows (CanBeCarried-high c.in-Test.track c.in-Test.low c.in-Test.high e.diagram e.at e.fits c.requires.can), low.remembered))),
    )

pub test-requires-clause-within : goal.test-requires-clause-within
test-requires-clause-within g t c =
    let e = c.in-Test.ensures in
    track-within c.in-Test.track c.in-Test.low c.in-Test.high e.diagram e.at e.fits c.requires.can

made : (g : Over) (t : ℕ) (c : In_ok-remember g t) → Carries (g.C.Rebuild.carrier c.args.carry.now) c.match-shape.to c.args.node c.match-shape.made
made g t c = elim c.match-shape.branch [
  | in-Leaf+in_ok-made-in-Leaf w ↦ rw (w.to-is, w.made-is) (
      let e = w.in_ok-made-in-Leaf.ensures in
      Carries-leaf (g.C.Rebuild.carrier c.args.carry.now) _ _ _ _ w.in-Leaf.value w.in-Leaf.ensures.at e.grows e.known e.map e.top)
  | in-Test+in_ok-low-in-Test+in_ok-high-in-Test+in_ok-made-in-Test w ↦ rw (w.to-is, w.made-is) (
      let at = w.in-Test.ensures in
      let e = w.in_ok-made-in-Test.ensures in
      let low = w.in_ok-low-in-Test.ensures in
      let high = w.in_ok-high-in-Test.ensures in
      let sides = Grows-trans low.grows high.grows in
      let low_there = Carries-grows (g.C.Rebuild.carrier c.args.carry.now) _ _ high.grows low.rebuilt in
      Carries-test (g.C.Rebuild.carrier c.args.carry.now) _ _ _ _ _ w.in-Test.track w.in-Test.low w.in-Test.high _ _
      at.at at.fits sides e.grows low_there high.rebuilt e.known e.map e.top)
]

pub returns-clause-rebuilt : goal.returns-clause-rebuilt
returns-clause-rebuilt g t c = made g t c

pub returns-clause-remembered : goal.returns-clause-remembered
returns-clause-remembered g t c =
    let before : RemembersCarried (g.C.Rebuild.carrier c.args.carry.now) c.match-shape.to (g.M.NodeCache.answers c.match-shape.memo) = elim c.match-shape.branch [
      | in-Leaf+in_ok-made-in-Leaf w ↦ rw (w.to-is, w.memo-is) (RemembersCarried-grows w.in_ok-made-in-Leaf.ensures.grows c.requires.remembered)
      | in-Test+in_ok-low-in-Test+in_ok-high-in-Test+in_ok-made-in-Test w ↦ rw (w.to-is, w.memo-is) (
          RemembersCarried-grows w.in_ok-made-in-Test.ensures.grows w.in_ok-high-in-Test.ensures.remembered)
    ] in
    RemembersCarried-learns c.in_ok-remember.ensures (made g t c) before
