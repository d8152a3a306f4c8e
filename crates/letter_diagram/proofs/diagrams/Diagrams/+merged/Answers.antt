use Rattle.std.proofs.Common.{arith, ◌≡◌, ℕ, sym, ◌∙◌}
use Rattle.letter_diagram.specs.Splits.{top_of_both}
use Rattle.letter_diagram.specs.Merged.{IsMerged}
use Rattle.letter_diagram.proofs.Maps.{Grows-trans}
use Rattle.letter_diagram.proofs.SetNumbers.{SetsKept-refl, SetsKept-trans}
use Rattle.letter_diagram.proofs.Splittings.{room_for-grows, room_for-sides, room_for-below, IsSplit-grows, chosen-grows}
use Rattle.letter_diagram.proofs.Mergings.{HasSets-grows, HasSets-low, HasSets-high, IsMerged-grows, IsMerged-above, IsMerged-at, IsMerged-test, RemembersMerged-grows, RemembersMerged-insert, RemembersUnited-grows, AreMerged-at, AreMerged-sides}
use Rattle.letter_diagram.proofs.diagrams.Diagrams.+merged.Goals as goal

pub returns-then-track-own-clause-merged : goal.returns-then-track-own-clause-merged
returns-then-track-own-clause-merged t c =
    let top = c.top-own.ensures.top in
    let above = c.if-track-own.true in
    IsMerged-above c.top-own.ensures.diagram _ (omega (arith, top, above)) c.requires.source

pub returns-in-Some-clause-merged : goal.returns-in-Some-clause-merged
returns-in-Some-clause-merged t c = c.requires.merged.merged _ _ (sym c.in-Some.ensures.value)

pub united-requires-clause-a_sets : goal.united-requires-clause-a_sets
united-requires-clause-a_sets t c = HasSets-low c.top-own.ensures.diagram c.split-low.ensures.sides c.requires.source

pub united-requires-clause-b_sets : goal.united-requires-clause-b_sets
united-requires-clause-b_sets t c = HasSets-high c.top-own.ensures.diagram c.split-low.ensures.sides c.requires.source

pub united-requires-clause-room : goal.united-requires-clause-room
united-requires-clause-room t c =
    let s = c.split-low.ensures.sides in
    let low_top = s.low_top in
    let high_top = s.high_top in
    let less = room_for-below _ c.args.a c.split-low.result.0 c.split-low.result.1 low_top high_top in
    let room = c.requires.room in
    omega (arith, less, room)

made : (t : ℕ) (c : goal.In_ok-insert t) → IsMerged c.united.new.self c.united.new.sets c.args.track c.args.a c.in_ok-node.node
made t c =
    let top = c.top-own.ensures.top in
    let here = c.if-own-track.true in
    let s = c.split-low.ensures.sides in
    let e = c.in_ok-node.ensures in
    IsMerged-at c.top-own.ensures.diagram c.args.track e.grows e.sets c.requires.source (sym top ∙ here) (rw (← here) s) e.united

pub returns-then-own-track-clause-merged : goal.returns-then-own-track-clause-merged
returns-then-own-track-clause-merged t c = made t c

pub returns-then-own-track-clause-remembered : goal.returns-then-own-track-clause-remembered
returns-then-own-track-clause-remembered t c =
    RemembersMerged-insert (RemembersMerged-grows c.in_ok-node.ensures.grows c.in_ok-node.ensures.sets c.requires.merged) c.in_ok-insert.ensures.updates (made t c)

pub returns-then-own-track-clause-room : goal.returns-then-own-track-clause-room
returns-then-own-track-clause-room t c =
    let s = c.split-low.ensures.sides in
    let less = room_for-below _ c.args.a c.split-low.result.0 c.split-low.result.1 s.low_top s.high_top in
    let used = c.in_ok-node.ensures.room in
    omega (arith, less, used)

pub returns-then-own-track-clause-answers : goal.returns-then-own-track-clause-answers
returns-then-own-track-clause-answers t c =
    AreMerged-at c.top-own.ensures.diagram c.args.track (rw (← c.if-own-track.true) c.split-low.ensures.sides) c.in_ok-node.ensures.answers

pub merged-requires : goal.merged-requires
merged-requires t c =
    let s = c.split-low.ensures.sides in
    let fall = s.low_smaller (sym c.top-own.ensures.top) in
    let less = room_for-below _ c.args.a c.split-low.result.0 c.split-low.result.0 s.low_top s.low_top in
    let room = c.requires.room in
    (omega arith, (c.requires.track_low, (HasSets-low c.top-own.ensures.diagram s c.requires.source, (omega (arith, less, room), (c.requires.merged, c.requires.united)))))

pub merged-requires-2 : goal.merged-requires-2
merged-requires-2 t c =
    let s = c.split-low.ensures.sides in
    let fall = s.high_smaller (sym c.top-own.ensures.top) in
    let top = c.top-own.ensures.top in
    let both : c.top-own.result ≡ top_of_both c.args.self.now c.args.a c.args.a = omega arith in
    let not_above = c.if-track-own.false in
    let track_low = c.requires.track_low in
    let sides = room_for-sides (omega (arith, not_above, track_low)) s s both in
    let same = room_for-grows c.split-low.result.1 c.split-low.result.1 c.in_ok-low.ensures.grows s.high_known s.high_known in
    let room = c.requires.room in
    let used = c.in_ok-low.ensures.room in
    let e = c.in_ok-low.ensures in (
      omega arith,
      (
        c.requires.track_low,
        (
          HasSets-grows e.grows e.sets (HasSets-high c.top-own.ensures.diagram s c.requires.source),
          (omega (arith, sides, same, room, used), (e.remembered, e.united)),
        ),
      ),
    )

joined : (t : ℕ) (c : goal.In_ok-insert-2 t) → IsMerged c.node.new.self c.merged-2.new.sets c.args.track c.args.a c.in_ok-node-2.node
joined t c =
    let from_high = c.in_ok-node-2.ensures.grows in
    let from_low = Grows-trans c.in_ok-high.ensures.grows from_high in
    let grows = Grows-trans c.in_ok-low.ensures.grows from_low in
    let kept = SetsKept-trans c.in_ok-low.ensures.sets c.in_ok-high.ensures.sets in
    let low = c.in_ok-low.ensures.merged in
    let high = c.in_ok-high.ensures.merged in
    let low_known = low.known in
    let high_longer = c.in_ok-high.ensures.grows.longer in
    let not_above = c.if-track-own.false in
    let not_here = c.if-own-track.false in
    IsMerged-test _ c.top-own.result c.in_ok-low.low c.in_ok-high.high (HasSets-grows grows kept c.requires.source)
    c.in_ok-node-2.ensures.known (omega (arith, not_above, not_here))
    (IsSplit-grows c.requires.source.known grows c.split-low.ensures.sides)
    (IsMerged-grows from_low c.in_ok-high.ensures.sets low) (IsMerged-grows from_high (SetsKept-refl _) high)
    (λ letter. c.in_ok-node-2.ensures.map letter ∙ sym (chosen-grows c.top-own.result _ _ letter (omega arith) high.known from_high))
    (grows.top c.args.a c.requires.source.known ∙ sym c.top-own.ensures.top)
    c.in_ok-node-2.ensures.top

pub returns-clause-merged : goal.returns-clause-merged
returns-clause-merged t c = joined t c

pub returns-clause-remembered : goal.returns-clause-remembered
returns-clause-remembered t c =
    RemembersMerged-insert
    (RemembersMerged-grows c.in_ok-node-2.ensures.grows (SetsKept-refl _) c.in_ok-high.ensures.remembered)
    c.in_ok-insert-2.ensures.updates (joined t c)

pub returns-clause-united : goal.returns-clause-united
returns-clause-united t c = RemembersUnited-grows c.in_ok-node-2.ensures.grows (SetsKept-refl _) c.in_ok-high.ensures.united

pub returns-clause-room : goal.returns-clause-room
returns-clause-room t c =
    let s = c.split-low.ensures.sides in
    let top = c.top-own.ensures.top in
    let both : c.top-own.result ≡ top_of_both c.args.self.now c.args.a c.args.a = omega arith in
    let not_above = c.if-track-own.false in
    let track_low = c.requires.track_low in
    let sides = room_for-sides (omega (arith, not_above, track_low)) s s both in
    let same = room_for-grows c.split-low.result.1 c.split-low.result.1 c.in_ok-low.ensures.grows s.high_known s.high_known in
    let low_used = c.in_ok-low.ensures.room in
    let high_used = c.in_ok-high.ensures.room in
    omega (arith, sides, same, low_used, high_used)

pub returns-clause-answers : goal.returns-clause-answers
returns-clause-answers t c =
    let not_above = c.if-track-own.false in
    let not_here = c.if-own-track.false in
    AreMerged-sides c.top-own.ensures.diagram c.args.track c.top-own.result (omega (arith, not_above, not_here))
    c.in_ok-low.ensures.grows c.in_ok-low.ensures.sets c.in_ok-high.ensures.sets
    c.split-low.ensures.sides c.requires.source c.in_ok-low.ensures.answers c.in_ok-high.ensures.answers

pub returns-in_err-high-clause-grows : goal.returns-in_err-high-clause-grows
returns-in_err-high-clause-grows t c = Grows-trans c.in_ok-low.ensures.grows c.in_err-high.ensures.grows

pub returns-in_err-high-clause-sets : goal.returns-in_err-high-clause-sets
returns-in_err-high-clause-sets t c = SetsKept-trans c.in_ok-low.ensures.sets c.in_err-high.ensures.sets

pub returns-in_err-node-2-clause-grows : goal.returns-in_err-node-2-clause-grows
returns-in_err-node-2-clause-grows t c = Grows-trans (Grows-trans c.in_ok-low.ensures.grows c.in_ok-high.ensures.grows) c.in_err-node-2.ensures.grows

pub returns-in_err-node-2-clause-sets : goal.returns-in_err-node-2-clause-sets
returns-in_err-node-2-clause-sets t c = SetsKept-trans c.in_ok-low.ensures.sets c.in_ok-high.ensures.sets

pub returns-in_err-insert-2-clause-grows : goal.returns-in_err-insert-2-clause-grows
returns-in_err-insert-2-clause-grows t c = Grows-trans (Grows-trans c.in_ok-low.ensures.grows c.in_ok-high.ensures.grows) c.in_ok-node-2.ensures.grows

pub returns-in_err-insert-2-clause-sets : goal.returns-in_err-insert-2-clause-sets
returns-in_err-insert-2-clause-sets t c = SetsKept-trans c.in_ok-low.ensures.sets c.in_ok-high.ensures.sets

pub returns-clause-grows : goal.returns-clause-grows
returns-clause-grows t c = Grows-trans (Grows-trans c.in_ok-low.ensures.grows c.in_ok-high.ensures.grows) c.in_ok-node-2.ensures.grows

pub returns-clause-sets : goal.returns-clause-sets
returns-clause-sets t c = SetsKept-trans c.in_ok-low.ensures.sets c.in_ok-high.ensures.sets
