use Rattle.std.proofs.Common.{arith, ℕ}
use Rattle.auto_reduce.specs.Unmet.{Finds, AreDoneWith, AreDoneBut, canonical_at}
use Rattle.auto_reduce.proofs.Unmets.{Finds-leaf, Finds-test, AreDoneWith-kept, AreDoneWith-note, AreDoneBut-note}
use Rattle.auto_reduce.proofs.unmet.+unmet_states.Goals as goal
use Rattle.auto_reduce.proofs.unmet.+unmet_states.Goals.{in-Leaf, in-Test+in_ok-low-in-Test+in_ok-unmet-in-Test}

pub bounds-rows-state : goal.bounds-rows-state
bounds-rows-state t c =
    let m = c.in-Leaf.ensures.at.map 0 in
    rw (← m) (c.requires.leaves 0)

pub unmet_states-requires : goal.unmet_states-requires
unmet_states-requires t c =
    let before = c.in-Test.ensures.fits.low_before in
    let known = c.requires.known in (
      omega (arith, before, c.decreases),
      (
        omega (arith, before, known),
        ((λ letter. let v = (c.in-Test.ensures.children letter).0 in rw (← v.1) (c.requires.leaves v.0)), (c.requires.done, c.requires.passed)),
      ),
    )

pub unmet_states-requires-in-Test : goal.unmet_states-requires-in-Test
unmet_states-requires-in-Test t c =
    let before = c.in-Test.ensures.fits.high_before in
    let known = c.requires.known in
    let low = c.in_ok-low-in-Test.ensures in
    (omega (arith, before, c.decreases), (omega (arith, before, known), ((λ letter. let v = (c.in-Test.ensures.children letter).1 in rw (← v.1) (c.requires.leaves v.0)), (low.done, low.passed))))

finds : (t : ℕ) (c : goal.After-add t) → Finds c.args.order.now c.args.found (canonical_at c.args.rows.now c.args.node) c.match-shape.unmet
finds t c = elim c.match-shape.branch [
  | in-Leaf w ↦
      rw w.unmet-is
      (Finds-leaf c.args.rows.now.from.now c.args.rows.now.canon.now c.args.order.now c.args.found c.args.node w.in-Leaf.state
      w.in-Leaf.ensures.at w.with_state-unmet.ensures)
  | in-Test+in_ok-low-in-Test+in_ok-unmet-in-Test w ↦ rw w.unmet-is (
      Finds-test c.args.rows.now.from.now c.args.rows.now.canon.now c.args.order.now c.args.found c.args.node w.in-Test.track w.in-Test.low w.in-Test.high
      w.in-Test.ensures.at w.in-Test.ensures.children w.in_ok-low-in-Test.ensures.finds w.in_ok-unmet-in-Test.ensures.finds)
]

done : (t : ℕ) (c : goal.After-add t) → AreDoneWith (canonical_at c.args.rows.now) c.args.order.now c.match-shape.unmet c.match-shape.kept.done
done t c = elim c.match-shape.branch [
  | in-Leaf w ↦ rw (w.unmet-is, w.kept-is) (AreDoneWith-kept w.with_state-unmet.ensures c.requires.done)
  | in-Test+in_ok-low-in-Test+in_ok-unmet-in-Test w ↦ rw (w.unmet-is, w.kept-is) w.in_ok-unmet-in-Test.ensures.done
]

passed : (t : ℕ) (c : goal.After-add t) → AreDoneBut (canonical_at c.args.rows.now) c.args.order.now c.match-shape.kept.passed.items c.match-shape.kept.done
passed t c = elim c.match-shape.branch [
  | in-Leaf w ↦ rw w.kept-is c.requires.passed
  | in-Test+in_ok-low-in-Test+in_ok-unmet-in-Test w ↦ rw w.kept-is w.in_ok-unmet-in-Test.ensures.passed
]

pub returns : goal.returns
returns t c = record {
  finds = finds t c;
  done =
      AreDoneWith-note (canonical_at c.args.rows.now) c.args.order.now c.args.found c.match-shape.unmet c.match-shape.kept.done
      c.add.new.self c.args.node (done t c) c.add.ensures (finds t c);
  passed = rw c.in_ok-push.ensures.items (AreDoneBut-note c.add.new.self c.args.node (passed t c) c.add.ensures);
}
