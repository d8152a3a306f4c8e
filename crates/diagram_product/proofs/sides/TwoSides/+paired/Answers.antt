use Rattle.std.proofs.Common.{arith, ℕ, ap, sym, ◌∙◌}
use Rattle.letter_diagram.specs.Splits.{room_from}
use Rattle.diagram_product.specs.Sided.{pair_top, IsPaired, RemembersPaired}
use Rattle.letter_diagram.proofs.Maps.{Grows-trans}
use Rattle.letter_diagram.proofs.PairNumbers.{PairsKept-refl, PairsKept-trans}
use Rattle.letter_diagram.proofs.Splittings.{room_from-some, room_from-sides, chosen-grows, sides-fall}
use Rattle.diagram_product.proofs.SidedPairs.{IsPaired-grows, IsPaired-leaf, IsPaired-parts, RemembersPaired-grows, RemembersPaired-learn, CanBePaired-low, CanBePaired-high, CanBePaired-grows, room-grows, ArePairs-leaf, ArePairs-parts}
use Rattle.diagram_product.proofs.sides.TwoSides.+paired.Given.{Over}
use Rattle.diagram_product.proofs.sides.TwoSides.+paired.Goals as goal
use Rattle.diagram_product.proofs.sides.TwoSides.+paired.Goals.{paired-in-Some-one_pair+in_ok-add-in-Some-one_pair+in_ok-node-in-Some-one_pair, paired-in-None+in_ok-node-in-None, paired-In_ok-insert}

pub paired-returns-in-Some-clause-paired : goal.paired-returns-in-Some-clause-paired
paired-returns-in-Some-clause-paired g t c = c.requires.remembered.paired _ _ _ c.in-Some.ensures

pub paired-add-requires : goal.paired-add-requires
paired-add-requires g t c =
    let some = room_from-some (pair_top c.args.self.now c.args.to.now c.args.a c.args.b) in
    let room = c.requires.room in
    omega (arith, some, room)

pub paired-paired_sides-requires : goal.paired-paired_sides-requires
paired-paired_sides-requires g t c κs within =
    (omega arith, (within, (c.requires.read, (c.one_pair.ensures.low c.in-None.is, (c.requires.room, c.requires.remembered)))))

-- what the match makes
made : (g : Over) (t : ℕ) (c : paired-In_ok-insert g t) → IsPaired c.args.self.now c.match-one_pair.to c.match-one_pair.pairs c.args.a c.args.b c.match-one_pair.node
made g t c = elim c.match-one_pair.branch [
  | paired-in-Some-one_pair+in_ok-add-in-Some-one_pair+in_ok-node-in-Some-one_pair w ↦ rw (w.to-is, w.pairs-is, w.node-is) (
      let leaf = w.in_ok-node-in-Some-one_pair.ensures in
      let add = w.in_ok-add-in-Some-one_pair.ensures in
      IsPaired-leaf _ _ _ _ c.requires.read leaf.grows leaf.known w.in-Some-one_pair.ensures.one add.number leaf.map leaf.top c.one_pair.ensures.small)
  | paired-in-None+in_ok-node-in-None w ↦ rw (w.to-is, w.pairs-is, w.node-is) w.in_ok-node-in-None.ensures.paired
]

pub paired-returns-clause-paired : goal.paired-returns-clause-paired
paired-returns-clause-paired g t c = made g t c

pub paired-returns-clause-remembered : goal.paired-returns-clause-remembered
paired-returns-clause-remembered g t c =
    let before : RemembersPaired c.args.self.now c.match-one_pair.to c.match-one_pair.pairs c.match-one_pair.memo = elim c.match-one_pair.branch [
      | paired-in-Some-one_pair+in_ok-add-in-Some-one_pair+in_ok-node-in-Some-one_pair w ↦ rw (w.to-is, w.pairs-is, w.memo-is)
          (RemembersPaired-grows w.in_ok-node-in-Some-one_pair.ensures.grows w.in_ok-add-in-Some-one_pair.ensures.kept c.requires.remembered)
      | paired-in-None+in_ok-node-in-None w ↦ rw (w.to-is, w.pairs-is, w.memo-is) w.in_ok-node-in-None.ensures.remembered
    ] in
    RemembersPaired-learn before c.in_ok-insert.ensures (made g t c)

pub paired-returns-clause-room : goal.paired-returns-clause-room
paired-returns-clause-room g t c =
    elim c.match-one_pair.branch [
      | paired-in-Some-one_pair+in_ok-add-in-Some-one_pair+in_ok-node-in-Some-one_pair w ↦
          let some = room_from-some (pair_top c.args.self.now c.args.to.now c.args.a c.args.b) in
          let room = w.in_ok-add-in-Some-one_pair.ensures.room in
          rw w.pairs-is (omega (arith, some, room))
      | paired-in-None+in_ok-node-in-None w ↦ rw w.pairs-is w.in_ok-node-in-None.ensures.room
    ]

pub paired-returns-clause-answers : goal.paired-returns-clause-answers
paired-returns-clause-answers g t c =
    elim c.match-one_pair.branch [
      | paired-in-Some-one_pair+in_ok-add-in-Some-one_pair+in_ok-node-in-Some-one_pair w ↦ rw w.pairs-is (
          let add = w.in_ok-add-in-Some-one_pair.ensures in
          ArePairs-leaf _ _ _ _ _ _ w.in-Some-one_pair.ensures.one add.pairs)
      | paired-in-None+in_ok-node-in-None w ↦ rw w.pairs-is w.in_ok-node-in-None.ensures.answers
    ]

pub paired_sides-paired-requires : goal.paired_sides-paired-requires
paired_sides-paired-requires g t c κs within =
    let left = c.test-test.ensures.left in
    let right = c.test-test.ensures.right in
    let track = c.test-test.ensures.top in
    let small = c.requires.low in
    let room = c.requires.room in
    let whole = ap room_from track in
    let fall = sides-fall _ _ _ _ _ _ _ track left.low_within right.low_within left.low_smaller right.low_smaller in
    let parts = room_from-sides _ _ _ _ _ (omega (arith, track, small)) left.low_above left.high_above right.low_above right.high_above in (
      omega (arith, fall),
      (within, (CanBePaired-low c.requires.read left right, (omega (arith, parts, room, whole), c.requires.remembered))),
    )

pub paired_sides-paired-requires-2 : goal.paired_sides-paired-requires-2
paired_sides-paired-requires-2 g t c κs within =
    let left = c.test-test.ensures.left in
    let right = c.test-test.ensures.right in
    let track = c.test-test.ensures.top in
    let small = c.requires.low in
    let room = c.requires.room in
    let whole = ap room_from track in
    let fall = sides-fall _ _ _ _ _ _ _ track left.high_within right.high_within left.high_smaller right.high_smaller in
    let parts = room_from-sides _ _ _ _ _ (omega (arith, track, small)) left.low_above left.high_above right.low_above right.high_above in
    let high = CanBePaired-high c.requires.read left right in
    let low = c.in_ok-low.ensures in
    let used = low.room in
    let same = room-grows low.grows high in (
      omega (arith, fall),
      (within, (CanBePaired-grows low.grows high, (omega (arith, parts, room, whole, used, same), low.remembered))),
    )

pub paired_sides-returns-clause-paired : goal.paired_sides-returns-clause-paired
paired_sides-returns-clause-paired g t c =
    let from_high = c.in_ok-node.ensures.grows in
    let from_low = Grows-trans c.in_ok-high.ensures.grows from_high in
    let grows = Grows-trans c.in_ok-low.ensures.grows from_low in
    let low = c.in_ok-low.ensures.paired in
    let high = c.in_ok-high.ensures.paired in
    let low_known = low.known in
    let longer = c.in_ok-high.ensures.grows.longer in
    IsPaired-parts c.requires.read c.test-test.ensures.left c.test-test.ensures.right
    grows c.in_ok-node.ensures.known c.test-test.ensures.top
    (IsPaired-grows from_low c.in_ok-high.ensures.pairs low) (IsPaired-grows from_high (PairsKept-refl _) high)
    (λ letter. c.in_ok-node.ensures.map letter ∙ sym (chosen-grows c.test-test.result.track _ _ letter (omega (arith, low_known, longer)) high.known from_high)) c.in_ok-node.ensures.top

pub paired_sides-returns-clause-remembered : goal.paired_sides-returns-clause-remembered
paired_sides-returns-clause-remembered g t c = RemembersPaired-grows c.in_ok-node.ensures.grows (PairsKept-refl _) c.in_ok-high.ensures.remembered

pub paired_sides-returns-clause-room : goal.paired_sides-returns-clause-room
paired_sides-returns-clause-room g t c =
    let left = c.test-test.ensures.left in
    let right = c.test-test.ensures.right in
    let track = c.test-test.ensures.top in
    let small = c.requires.low in
    let whole = ap room_from track in
    let parts = room_from-sides _ _ _ _ _ (omega (arith, track, small)) left.low_above left.high_above right.low_above right.high_above in
    let same = room-grows c.in_ok-low.ensures.grows (CanBePaired-high c.requires.read left right) in
    let low_used = c.in_ok-low.ensures.room in
    let high_used = c.in_ok-high.ensures.room in
    omega (arith, parts, same, whole, low_used, high_used)

pub paired_sides-returns-clause-answers : goal.paired_sides-returns-clause-answers
paired_sides-returns-clause-answers g t c =
    ArePairs-parts c.requires.read c.test-test.ensures.left c.test-test.ensures.right
    _ c.in_ok-low.ensures.grows c.in_ok-high.ensures.pairs c.in_ok-low.ensures.answers c.in_ok-high.ensures.answers

pub paired_sides-returns-clause-pairs : goal.paired_sides-returns-clause-pairs
paired_sides-returns-clause-pairs g t c = PairsKept-trans c.in_ok-low.ensures.pairs c.in_ok-high.ensures.pairs
