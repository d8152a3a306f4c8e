use Rattle.std.proofs.Common.{arith, ℕ, refl, sym, subst}
use Rattle.letter_diagram.specs.Diagram.{IsAt, IsTest, FitsBelow, HasChildren}
use Rattle.letter_diagram.proofs.Maps.{Grows-trans}
use Rattle.auto_reduce.specs.Unmet.{IsMetLeaf, IsPruned, RemembersPruned, AreDone, canonical_at}
use Rattle.auto_reduce.proofs.Unmets.{IsMetLeaf-grows, IsPruned-leaf, IsPruned-test, IsPruned-grows, RemembersPruned-grows, RemembersPruned-learns, AreDone-note}
use Rattle.auto_reduce.proofs.unmet.+pruned.Goals as goal
use Rattle.auto_reduce.proofs.unmet.+pruned.Goals.{in-Leaf+in_ok-made-in-Leaf, in-Test+in_ok-low-in-Test+in_ok-high-in-Test+in_ok-made-in-Test, then-same_map, else-same_map}

pub returns-in-Some-clause-pruned : goal.returns-in-Some-clause-pruned
returns-in-Some-clause-pruned t c = c.requires.remembered.pruned _ _ (sym c.in-Some.ensures)

pub bounds-rows-state : goal.bounds-rows-state
bounds-rows-state t c =
    let at = subst (IsAt c.args.rows.now.from.now c.args.node) c.in-Leaf.is c.shape-shape.ensures.at in
    let m = at.map 0 in
    rw (← m) (c.requires.leaves 0)

pub pruned-requires : goal.pruned-requires
pruned-requires t c =
    let fits : IsTest c.args.rows.now.from.now c.args.node c.in-Test.track c.in-Test.low c.in-Test.high =
    subst (FitsBelow c.args.rows.now.from.now c.args.node) c.in-Test.is c.shape-shape.ensures.fits in
    let before = fits.low_before in
    let children = subst (HasChildren c.args.rows.now.from.now c.args.node) c.in-Test.is c.shape-shape.ensures.children in (
      omega (arith, before, c.decreases),
      (
        omega (arith, before, c.requires.known),
        ((λ letter. let v = (children letter).0 in rw (← v.1) (c.requires.leaves v.0)), (c.requires.met, (c.requires.remembered, c.requires.done))),
      ),
    )

pub pruned-requires-in-Test : goal.pruned-requires-in-Test
pruned-requires-in-Test t c =
    let fits : IsTest c.args.rows.now.from.now c.args.node c.in-Test.track c.in-Test.low c.in-Test.high =
    subst (FitsBelow c.args.rows.now.from.now c.args.node) c.in-Test.is c.shape-shape.ensures.fits in
    let before = fits.high_before in
    let low = c.in_ok-low-in-Test.ensures in
    let children = subst (HasChildren c.args.rows.now.from.now c.args.node) c.in-Test.is c.shape-shape.ensures.children in (
      omega (arith, before, c.decreases),
      (
        omega (arith, before, c.requires.known),
        (
          (λ letter. let v = (children letter).1 in rw (← v.1) (c.requires.leaves v.0)),
          (IsMetLeaf-grows c.pruned.ensures.grows c.requires.met, (low.remembered, low.done)),
        ),
      ),
    )

made : (t : ℕ) (c : goal.Joined-same_map t) → IsPruned c.args.rows.now c.match-shape.to c.args.met.now.order.now c.args.node c.match-shape.made
made t c = elim c.match-shape.branch [
  | in-Leaf+in_ok-made-in-Leaf w ↦ rw (w.to-is, w.made-is) (let e = w.in_ok-made-in-Leaf.ensures in IsPruned-leaf _ _ _ _ w.in-Leaf.state _
      (subst (IsAt c.args.rows.now.from.now c.args.node) w.in-Leaf.is c.shape-shape.ensures.at) refl e.known e.top e.map)
  | in-Test+in_ok-low-in-Test+in_ok-high-in-Test+in_ok-made-in-Test w ↦ rw (w.to-is, w.made-is) (
      let e = w.in_ok-made-in-Test.ensures in
      let low = w.in_ok-low-in-Test.ensures.pruned in
      let high = w.in_ok-high-in-Test.ensures.pruned in
      IsPruned-test _ _ w.in-Test.track w.in-Test.low w.in-Test.high
      (subst (IsAt c.args.rows.now.from.now c.args.node) w.in-Test.is c.shape-shape.ensures.at)
      (IsPruned-grows w.in_ok-high-in-Test.ensures.grows low) high e.known e.map e.top)
]

pub returns-clause-pruned : goal.returns-clause-pruned
returns-clause-pruned t c = made t c

pub returns-clause-remembered : goal.returns-clause-remembered
returns-clause-remembered t c =
    let before : RemembersPruned c.args.rows.now c.match-shape.to c.args.met.now.order.now c.match-shape.kept.memo = elim c.match-shape.branch [
      | in-Leaf+in_ok-made-in-Leaf w ↦ rw (w.to-is, w.kept-is) (RemembersPruned-grows w.in_ok-made-in-Leaf.ensures.grows c.requires.remembered)
      | in-Test+in_ok-low-in-Test+in_ok-high-in-Test+in_ok-made-in-Test w ↦ rw (w.to-is, w.kept-is)
          (RemembersPruned-grows w.in_ok-made-in-Test.ensures.grows w.in_ok-high-in-Test.ensures.remembered)
    ] in
    let learnt : RemembersPruned c.args.rows.now c.match-shape.to c.args.met.now.order.now c.remember.new.self =
    RemembersPruned-learns before c.in_ok-remember.ensures (made t c) in
    elim c.if-same_map.branch [
      | then-same_map w ↦ rw w.kept-is learnt
      | else-same_map w ↦ rw w.kept-is learnt
    ]

before_done : (t : ℕ) (c : goal.Joined-same_map t) → AreDone (canonical_at c.args.rows.now) c.args.met.now.order.now c.match-shape.kept.done
before_done t c = elim c.match-shape.branch [
  | in-Leaf+in_ok-made-in-Leaf w ↦ rw w.kept-is c.requires.done
  | in-Test+in_ok-low-in-Test+in_ok-high-in-Test+in_ok-made-in-Test w ↦ rw w.kept-is w.in_ok-high-in-Test.ensures.done
]

grows : (t : ℕ) (c : goal.Joined-same_map t) → IsMetLeaf c.match-shape.to c.args.met.now.order.now c.args.met.now.leaf
grows t c = elim c.match-shape.branch [
  | in-Leaf+in_ok-made-in-Leaf w ↦ rw w.to-is (IsMetLeaf-grows w.in_ok-made-in-Leaf.ensures.grows c.requires.met)
  | in-Test+in_ok-low-in-Test+in_ok-high-in-Test+in_ok-made-in-Test w ↦ rw w.to-is (
      let all = Grows-trans w.in_ok-low-in-Test.ensures.grows (Grows-trans w.in_ok-high-in-Test.ensures.grows w.in_ok-made-in-Test.ensures.grows) in
      IsMetLeaf-grows all c.requires.met)
]

pub returns-clause-done : goal.returns-clause-done
returns-clause-done t c = elim c.if-same_map.branch [
  | then-same_map w ↦ rw w.kept-is (
      let same = c.same_map.ensures.equal.0 w.if-same_map.true in
      AreDone-note c.args.rows.now c.match-shape.to _ c.args.node c.match-shape.made (before_done t c)
      w.add.ensures (made t c) (subst (IsMetLeaf c.match-shape.to c.args.met.now.order.now) (sym same) (grows t c)))
  | else-same_map w ↦ rw w.kept-is (before_done t c)
]
