use Rattle.std.proofs.Common.{rules, arith, ◌≡◌, ℕ, sym, ◌∙◌}
use Rattle.letter_diagram.specs.Splits.{top_of_both}
use Rattle.letter_diagram.specs.Merged.{IsUnited, RemembersUnited}
use Rattle.letter_diagram.proofs.Maps.{Grows-trans}
use Rattle.letter_diagram.proofs.SetNumbers.{SetsKept-refl, SetsKept-trans}
use Rattle.letter_diagram.proofs.Splittings.{room_for-constant, room_for-grows, room_for-sides, top_of_both-grows, IsSplit-grows, chosen-grows, sides-fall}
use Rattle.letter_diagram.proofs.Mergings.{HasSets-grows, HasSets-low, HasSets-high, IsUnited-grows, IsUnited-same, IsUnited-sides, RemembersUnited-grows, RemembersUnited-learn, AreUnions-sides}
use Rattle.letter_diagram.proofs.diagrams.Diagrams.+united.Goals as goal
use Rattle.letter_diagram.proofs.diagrams.Diagrams.+united.Goals.{united-then-track-eq-MOST_TRACKS+in_ok-node, united-else-track-eq-MOST_TRACKS+in_ok-node-2}

pub united-returns-in-Some-clause-united : goal.united-returns-in-Some-clause-united
united-returns-in-Some-clause-united t c = c.requires.remembered.united _ _ _ c.in-Some.ensures

pub united-united_leaves-requires-clause-room : goal.united-united_leaves-requires-clause-room
united-united_leaves-requires-clause-room t c =
    let both : top_of_both c.args.self.now c.args.a c.args.b ≡ 20 = search rules in
    let one = room_for-constant _ _ _ both in
    let room = c.requires.room in
    omega (arith, one, room)

made : (t : ℕ) (c : goal.united-In_ok-insert t) → IsUnited c.if-track-eq-MOST_TRACKS.self c.if-track-eq-MOST_TRACKS.sets c.args.a c.args.b c.if-track-eq-MOST_TRACKS.node
made t c = elim c.if-track-eq-MOST_TRACKS.branch [
  | united-then-track-eq-MOST_TRACKS+in_ok-node w ↦ rw (w.self-is, w.sets-is, w.node-is) w.in_ok-node.ensures.united
  | united-else-track-eq-MOST_TRACKS+in_ok-node-2 w ↦ rw (w.self-is, w.sets-is, w.node-is) w.in_ok-node-2.ensures.united
]

pub united-returns-clause-united : goal.united-returns-clause-united
united-returns-clause-united t c = made t c

pub united-returns-clause-remembered : goal.united-returns-clause-remembered
united-returns-clause-remembered t c =
    let before : RemembersUnited c.if-track-eq-MOST_TRACKS.self c.if-track-eq-MOST_TRACKS.sets c.if-track-eq-MOST_TRACKS.memo = elim c.if-track-eq-MOST_TRACKS.branch [
      | united-then-track-eq-MOST_TRACKS+in_ok-node w ↦
          rw (w.self-is, w.sets-is, w.memo-is)
          (RemembersUnited-grows w.in_ok-node.ensures.grows w.in_ok-node.ensures.sets c.requires.remembered)
      | united-else-track-eq-MOST_TRACKS+in_ok-node-2 w ↦ rw (w.self-is, w.sets-is, w.memo-is) w.in_ok-node-2.ensures.remembered
    ] in
    RemembersUnited-learn before c.in_ok-insert.ensures (made t c)

pub united-returns-clause-room : goal.united-returns-clause-room
united-returns-clause-room t c =
    elim c.if-track-eq-MOST_TRACKS.branch [
      | united-then-track-eq-MOST_TRACKS+in_ok-node w ↦
          let both : top_of_both c.args.self.now c.args.a c.args.b ≡ 20 = search rules in
          let one = room_for-constant _ _ _ both in
          let room = w.in_ok-node.ensures.room in
          rw w.sets-is (omega (arith, one, room))
      | united-else-track-eq-MOST_TRACKS+in_ok-node-2 w ↦ rw w.sets-is w.in_ok-node-2.ensures.room
    ]

pub united-returns-clause-answers : goal.united-returns-clause-answers
united-returns-clause-answers t c =
    elim c.if-track-eq-MOST_TRACKS.branch [
      | united-then-track-eq-MOST_TRACKS+in_ok-node w ↦ rw w.sets-is w.in_ok-node.ensures.answers
      | united-else-track-eq-MOST_TRACKS+in_ok-node-2 w ↦ rw w.sets-is w.in_ok-node-2.ensures.answers
    ]

pub united_sides-united-requires : goal.united_sides-united-requires
united_sides-united-requires t c =
    let a = c.split-a_low.ensures.sides in
    let b = c.split-b_low.ensures.sides in
    let is = c.split-a_low.ensures.diagram in
    let fall = sides-fall _ _ _ _ _ _ _ c.requires.track a.low_within b.low_within a.low_smaller b.low_smaller in
    let sides = room_for-sides c.requires.track_low a b c.requires.track in
    let room = c.requires.room in
    (omega arith, (HasSets-low is a c.requires.a_sets, (HasSets-low is b c.requires.b_sets, (omega (arith, sides, room), c.requires.remembered))))

pub united_sides-united-requires-2 : goal.united_sides-united-requires-2
united_sides-united-requires-2 t c =
    let a = c.split-a_low.ensures.sides in
    let b = c.split-b_low.ensures.sides in
    let is = c.split-a_low.ensures.diagram in
    let fall = sides-fall _ _ _ _ _ _ _ c.requires.track a.high_within b.high_within a.high_smaller b.high_smaller in
    let grows = c.in_ok-low.ensures.grows in
    let kept = c.in_ok-low.ensures.sets in
    let sides = room_for-sides c.requires.track_low a b c.requires.track in
    let same = room_for-grows c.split-a_low.result.1 c.split-b_low.result.1 grows a.high_known b.high_known in
    let room = c.requires.room in
    let used = c.in_ok-low.ensures.room in (
      omega arith,
      (
        HasSets-grows grows kept (HasSets-high is a c.requires.a_sets),
        (
          HasSets-grows grows kept (HasSets-high is b c.requires.b_sets),
          (omega (arith, sides, room, same, used), c.in_ok-low.ensures.remembered),
        ),
      ),
    )

pub united_sides-returns-clause-united : goal.united_sides-returns-clause-united
united_sides-returns-clause-united t c =
    let a = c.split-a_low.ensures.sides in
    let b = c.split-b_low.ensures.sides in
    let from_high = c.in_ok-node.ensures.grows in
    let from_low = Grows-trans c.in_ok-high.ensures.grows from_high in
    let grows = Grows-trans c.in_ok-low.ensures.grows from_low in
    let kept = SetsKept-trans c.in_ok-low.ensures.sets c.in_ok-high.ensures.sets in
    let longer = grows.longer in
    let low = c.in_ok-low.ensures.united in
    let high = c.in_ok-high.ensures.united in
    let low_known = low.known in
    let high_longer = c.in_ok-high.ensures.grows.longer in
    IsUnited-sides _ c.args.track c.in_ok-low.low c.in_ok-high.high (HasSets-grows grows kept c.requires.a_sets)
    (HasSets-grows grows kept c.requires.b_sets) c.in_ok-node.ensures.known
    (IsSplit-grows c.requires.a_sets.known grows a) (IsSplit-grows c.requires.b_sets.known grows b)
    (c.requires.track ∙ sym (top_of_both-grows _ _ grows c.requires.a_sets.known c.requires.b_sets.known))
    (IsUnited-grows from_low c.in_ok-high.ensures.sets low) (IsUnited-grows from_high (SetsKept-refl _) high)
    (λ letter. c.in_ok-node.ensures.map letter ∙ sym (chosen-grows c.args.track _ _ letter (omega arith) high.known from_high)) c.in_ok-node.ensures.top

pub united_sides-returns-clause-remembered : goal.united_sides-returns-clause-remembered
united_sides-returns-clause-remembered t c = RemembersUnited-grows c.in_ok-node.ensures.grows (SetsKept-refl _) c.in_ok-high.ensures.remembered

pub united_sides-returns-clause-room : goal.united_sides-returns-clause-room
united_sides-returns-clause-room t c =
    let a = c.split-a_low.ensures.sides in
    let b = c.split-b_low.ensures.sides in
    let sides = room_for-sides c.requires.track_low a b c.requires.track in
    let same = room_for-grows c.split-a_low.result.1 c.split-b_low.result.1 c.in_ok-low.ensures.grows a.high_known b.high_known in
    let low_used = c.in_ok-low.ensures.room in
    let high_used = c.in_ok-high.ensures.room in
    omega (arith, sides, same, low_used, high_used)

pub united_sides-returns-clause-answers : goal.united_sides-returns-clause-answers
united_sides-returns-clause-answers t c =
    AreUnions-sides c.split-a_low.ensures.diagram c.args.track c.in_ok-low.ensures.grows c.in_ok-low.ensures.sets c.in_ok-high.ensures.sets
    c.split-a_low.ensures.sides c.split-b_low.ensures.sides c.requires.a_sets c.requires.b_sets c.in_ok-low.ensures.answers c.in_ok-high.ensures.answers

pub united-returns-then-eq-clause-united : goal.united-returns-then-eq-clause-united
united-returns-then-eq-clause-united t c =
    let equal : c.args.a ≡ c.args.b = search rules in
    IsUnited-same c.top.ensures.diagram _ equal c.requires.a_sets

pub united_sides-returns-in_err-high-clause-grows : goal.united_sides-returns-in_err-high-clause-grows
united_sides-returns-in_err-high-clause-grows t c = Grows-trans c.in_ok-low.ensures.grows c.in_err-high.ensures.grows

pub united_sides-returns-in_err-high-clause-sets : goal.united_sides-returns-in_err-high-clause-sets
united_sides-returns-in_err-high-clause-sets t c = SetsKept-trans c.in_ok-low.ensures.sets c.in_err-high.ensures.sets

pub united_sides-returns-in_err-node-clause-grows : goal.united_sides-returns-in_err-node-clause-grows
united_sides-returns-in_err-node-clause-grows t c = Grows-trans (Grows-trans c.in_ok-low.ensures.grows c.in_ok-high.ensures.grows) c.in_err-node.ensures.grows

pub united_sides-returns-in_err-node-clause-sets : goal.united_sides-returns-in_err-node-clause-sets
united_sides-returns-in_err-node-clause-sets t c = SetsKept-trans c.in_ok-low.ensures.sets c.in_ok-high.ensures.sets

pub united_sides-returns-clause-grows : goal.united_sides-returns-clause-grows
united_sides-returns-clause-grows t c = Grows-trans (Grows-trans c.in_ok-low.ensures.grows c.in_ok-high.ensures.grows) c.in_ok-node.ensures.grows

pub united_sides-returns-clause-sets : goal.united_sides-returns-clause-sets
united_sides-returns-clause-sets t c = SetsKept-trans c.in_ok-low.ensures.sets c.in_ok-high.ensures.sets

pub united-returns-clause-grows : goal.united-returns-clause-grows
united-returns-clause-grows t c = elim c.if-track-eq-MOST_TRACKS.branch [
  | united-then-track-eq-MOST_TRACKS+in_ok-node w ↦ rw w.self-is w.in_ok-node.ensures.grows
  | united-else-track-eq-MOST_TRACKS+in_ok-node-2 w ↦ rw w.self-is w.in_ok-node-2.ensures.grows
]

pub united-returns-clause-sets : goal.united-returns-clause-sets
united-returns-clause-sets t c = elim c.if-track-eq-MOST_TRACKS.branch [
  | united-then-track-eq-MOST_TRACKS+in_ok-node w ↦ rw w.sets-is w.in_ok-node.ensures.sets
  | united-else-track-eq-MOST_TRACKS+in_ok-node-2 w ↦ rw w.sets-is w.in_ok-node-2.ensures.sets
]

pub united-returns-in_err-insert-clause-grows : goal.united-returns-in_err-insert-clause-grows
united-returns-in_err-insert-clause-grows t c = elim c.if-track-eq-MOST_TRACKS.branch [
  | united-then-track-eq-MOST_TRACKS+in_ok-node w ↦ rw w.self-is w.in_ok-node.ensures.grows
  | united-else-track-eq-MOST_TRACKS+in_ok-node-2 w ↦ rw w.self-is w.in_ok-node-2.ensures.grows
]

pub united-returns-in_err-insert-clause-sets : goal.united-returns-in_err-insert-clause-sets
united-returns-in_err-insert-clause-sets t c = elim c.if-track-eq-MOST_TRACKS.branch [
  | united-then-track-eq-MOST_TRACKS+in_ok-node w ↦ rw w.sets-is w.in_ok-node.ensures.sets
  | united-else-track-eq-MOST_TRACKS+in_ok-node-2 w ↦ rw w.sets-is w.in_ok-node-2.ensures.sets
]
