use Rattle.std.proofs.Common.{ℕ, arith, sym}
use Rattle.letter_diagram.proofs.SetNumbers.{SetsKept-refl}
use Rattle.auto_project.specs.Placed.{IsPlaced, RemembersPlaced}
use Rattle.auto_project.proofs.Placings.{IsPlaced-grows, IsPlaced-leaf, IsPlaced-test, RemembersPlaced-grows, RemembersPlaced-insert, HasSets-side, AddsSetsOf-leaf, AddsSetsOf-test}
use Rattle.auto_project.proofs.placing.SetNumbering.+led.Goals as goal
use Rattle.auto_project.proofs.placing.SetNumbering.+led.Goals.{in-Leaf+in_ok-row-in-Leaf, in-Test+in_ok-low-in-Test+in_ok-high-in-Test+in_ok-row-in-Test}

pub returns-in-Some-clause-placed : goal.returns-in-Some-clause-placed
returns-in-Some-clause-placed t c = c.requires.remembered.placed _ _ (sym c.in-Some.ensures)

pub leaf-requires : goal.leaf-requires
leaf-requires t c =
    let at = rw c.diagrams.ensures at c.in-Leaf.ensures.at in
    rw (c.sets.ensures, ← at.map 0) (c.requires.node.numbered 0)

pub returns-in_err-row-in-Leaf-clause-remembered : goal.returns-in_err-row-in-Leaf-clause-remembered
returns-in_err-row-in-Leaf-clause-remembered t c = rw c.leaf.ensures.placed (RemembersPlaced-grows c.leaf.ensures.grows c.leaf.ensures.kept c.requires.remembered)

pub led-requires : goal.led-requires
led-requires t c =
    let low_before = c.in-Test.ensures.fits.low_before in
    let children = rw c.diagrams.ensures at c.in-Test.ensures.children in
    (omega (arith, low_before, c.decreases), (HasSets-side _ low_before c.requires.node (λ letter. (children letter).0), c.requires.remembered))

pub led-requires-in-Test : goal.led-requires-in-Test
led-requires-in-Test t c =
    let high_before = c.in-Test.ensures.fits.high_before in
    let children = rw c.diagrams.ensures at c.in-Test.ensures.children in
    (omega (arith, high_before, c.decreases), (HasSets-side _ high_before c.requires.node (λ letter. (children letter).1), c.led.ensures.remembered))

pub returns-in_err-row-in-Test-clause-remembered : goal.returns-in_err-row-in-Test-clause-remembered
returns-in_err-row-in-Test-clause-remembered t c = RemembersPlaced-grows c.node.ensures.grows (SetsKept-refl _) c.led-in-Test.ensures.remembered

made : (t : ℕ) (c : goal.After-insert t) → IsPlaced c.args.merger.now.shapes c.args.merger.now.sets c.match-shape.self.rows c.match-shape.self.sets c.args.node c.match-shape.row
made t c = elim c.match-shape.branch [
  | in-Leaf+in_ok-row-in-Leaf w ↦ rw (w.self-is, w.row-is) (
      let e = w.in_ok-row-in-Leaf.ensures in
      IsPlaced-leaf _ _ _ w.in-Leaf.number (rw c.diagrams.ensures at w.in-Leaf.ensures.at) c.requires.node e.known (rw w.sets.ensures at e.leads) e.top)
  | in-Test+in_ok-low-in-Test+in_ok-high-in-Test+in_ok-row-in-Test w ↦ rw (w.self-is, w.row-is) (
      let e = w.in_ok-row-in-Test.ensures in
      let high = w.in_ok-high-in-Test.ensures in
      IsPlaced-test _ _ _ (rw c.diagrams.ensures at w.in-Test.ensures.at) c.requires.node
      (IsPlaced-grows high.grows high.kept w.in_ok-low-in-Test.ensures.placed) high.placed e.known e.map e.top)
]

pub returns-clause-placed : goal.returns-clause-placed
returns-clause-placed t c = made t c

pub returns-clause-added : goal.returns-clause-added
returns-clause-added t c = elim c.match-shape.branch [
  | in-Leaf+in_ok-row-in-Leaf w ↦ rw w.self-is (AddsSetsOf-leaf _ _ _ w.in-Leaf.number (rw c.diagrams.ensures at w.in-Leaf.ensures.at) (rw w.sets.ensures at w.in_ok-row-in-Leaf.ensures.added))
  | in-Test+in_ok-low-in-Test+in_ok-high-in-Test+in_ok-row-in-Test w ↦
      rw w.self-is
      (AddsSetsOf-test _ w.in-Test.track (rw c.diagrams.ensures at w.in-Test.ensures.children) w.in_ok-high-in-Test.ensures.kept
      w.in_ok-low-in-Test.ensures.added w.in_ok-high-in-Test.ensures.added)
]

pub returns-clause-remembered : goal.returns-clause-remembered
returns-clause-remembered t c =
    let before : RemembersPlaced c.args.merger.now.shapes c.args.merger.now.sets c.match-shape.self.rows c.match-shape.self.sets c.match-shape.self.placed = elim c.match-shape.branch [
      | in-Leaf+in_ok-row-in-Leaf w ↦ rw w.self-is (
          let e = w.in_ok-row-in-Leaf.ensures in
          rw e.placed (RemembersPlaced-grows e.grows e.kept c.requires.remembered))
      | in-Test+in_ok-low-in-Test+in_ok-high-in-Test+in_ok-row-in-Test w ↦
          rw w.self-is
          (RemembersPlaced-grows w.in_ok-row-in-Test.ensures.grows (SetsKept-refl _) w.in_ok-high-in-Test.ensures.remembered)
    ] in
    RemembersPlaced-insert before c.insert.ensures (made t c)
