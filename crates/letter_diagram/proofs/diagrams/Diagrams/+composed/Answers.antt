use Rattle.std.proofs.Common.{arith, ◌<◌, ℕ, length, sym, ◌∙◌}
use Rattle.letter_diagram.specs.Composed.{IsComposed, RemembersComposed}
use Rattle.letter_diagram.proofs.Maps.{Grows-trans}
use Rattle.letter_diagram.proofs.Splittings.{chosen-grows}
use Rattle.letter_diagram.proofs.Compositions.{IsComposed-leaf, IsComposed-test, IsComposed-grows, RemembersComposed-grows, RemembersComposed-insert, rows-grow}
use Rattle.letter_diagram.proofs.diagrams.Diagrams.+composed.Goals as goal
use Rattle.letter_diagram.proofs.diagrams.Diagrams.+composed.Goals.{in-Leaf, in-Test+in_ok-low-in-Test+in_ok-high-in-Test+in_ok-node-in-Test}

pub returns-in-Some-clause-composed : goal.returns-in-Some-clause-composed
returns-in-Some-clause-composed t c = c.requires.remembered.composed _ _ (sym c.in-Some.ensures.value)

pub bounds-rows-value : goal.bounds-rows-value
bounds-rows-value t c =
    let at = c.in-Leaf.ensures.at.map 0 in
    rw (← at) (c.requires.leaves 0)

pub composed-requires : goal.composed-requires
composed-requires t c =
    let low_before = c.in-Test.ensures.fits.low_before in
    (omega arith, (omega arith, (c.requires.rows, (λ letter. let v = (c.in-Test.ensures.children letter).0 in rw (← v.1) (c.requires.leaves v.0), c.requires.remembered))))

pub composed-requires-in-Test : goal.composed-requires-in-Test
composed-requires-in-Test t c =
    let high_before = c.in-Test.ensures.fits.high_before in
    let grows = c.in_ok-low-in-Test.ensures.grows in
    let longer = grows.longer in
    let known : c.in-Test.high < length c.args.self.now = omega arith in (
      omega arith,
      (
        omega arith,
        (
          rows-grow _ grows c.requires.rows,
          (
            (λ letter. let v = (c.in-Test.ensures.children letter).1 in rw (grows.map c.in-Test.high letter known, ← v.1) (c.requires.leaves v.0)),
            c.in_ok-low-in-Test.ensures.remembered,
          ),
        ),
      ),
    )

made : (t : ℕ) (c : goal.In_ok-insert t) → IsComposed c.match-shape.self c.args.rows.now c.args.a c.match-shape.node
made t c = elim c.match-shape.branch [
  | in-Leaf w ↦ rw (w.self-is, w.node-is) (IsComposed-leaf _ _ _ _ w.in-Leaf.value c.requires.known c.requires.rows w.in-Leaf.ensures.at.map c.requires.leaves w.index-rows-value.is)
  | in-Test+in_ok-low-in-Test+in_ok-high-in-Test+in_ok-node-in-Test w ↦ rw (w.self-is, w.node-is) (
      let e = w.in_ok-node-in-Test.ensures in
      let low = w.in_ok-low-in-Test.ensures.composed in
      let high = w.in_ok-high-in-Test.ensures.composed in
      let g1 = w.in_ok-low-in-Test.ensures.grows in
      let g2 = w.in_ok-high-in-Test.ensures.grows in
      let both = Grows-trans g1 g2 in
      let longer = both.longer in
      let known = c.requires.known in
      let low_before = w.in-Test.ensures.fits.low_before in
      let high_before = w.in-Test.ensures.fits.high_before in
      let same =
      λ (letter : ℕ). chosen-grows w.in-Test.track w.in-Test.low w.in-Test.high letter (omega (arith, low_before, known)) (omega (arith, high_before, known)) both in
      IsComposed-test _ _ w.in-Test.track w.in-Test.low w.in-Test.high (omega (arith, longer, known))
      (λ letter. both.map c.args.a letter c.requires.known ∙ w.in-Test.ensures.at.map letter ∙ sym (same letter)) (IsComposed-grows g2 low) high e.grows e.known e.map)
]

pub returns-clause-composed : goal.returns-clause-composed
returns-clause-composed t c = made t c

pub returns-clause-remembered : goal.returns-clause-remembered
returns-clause-remembered t c =
    let before : RemembersComposed c.match-shape.self c.args.rows.now c.match-shape.memo = elim c.match-shape.branch [
      | in-Leaf w ↦ rw (w.self-is, w.memo-is) c.requires.remembered
      | in-Test+in_ok-low-in-Test+in_ok-high-in-Test+in_ok-node-in-Test w ↦
          rw (w.self-is, w.memo-is) (RemembersComposed-grows w.in_ok-node-in-Test.ensures.grows w.in_ok-high-in-Test.ensures.remembered)
    ] in
    RemembersComposed-insert before c.in_ok-insert.ensures.updates (made t c)
