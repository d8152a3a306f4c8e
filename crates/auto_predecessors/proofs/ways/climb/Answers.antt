use Rattle.std.proofs.Common.{◌<◌, length, sym, ◌∙◌}
use Rattle.std.proofs.lemmas.Option.{slice_get_read}
use Rattle.std.proofs.lemmas.List.Elements.{All-append}
use Rattle.auto_predecessors.proofs.Climbs.{AreListedBelow-all, AreClimbed-step, All-last, All-waits}
use Rattle.auto_predecessors.proofs.ways.climb.Goals as goal

pub mark_all-requires : goal.mark_all-requires
mark_all-requires c =
    let above = c.args.above.now in
    let size = length c.args.marks.now in
    let place = c.in-Some.place in
    let before = c.loop-place.invariant in
    let inside = All-last size place c.loop-place.waiting.items c.pop.new.self.items c.in-Some.ensures.items before.waits in
    rw (c.as_slice-in-Some.ensures, before.size) (AreListedBelow-all place c.index-above-place.result c.requires.above
    (slice_get_read above size place c.index-above-place.result (sym c.requires.above_size) inside c.index-above-place.is))

pub loop-place-preserved : goal.loop-place-preserved
loop-place-preserved c =
    let above = c.args.above.now in
    let owners = c.args.owners.now in
    let size = length c.args.marks.now in
    let place = c.in-Some.place in
    let before = c.loop-place.invariant in
    let waiting = c.loop-place.waiting.items in
    let rest = c.pop.new.self.items in
    let popped = c.in-Some.ensures.items in
    let inside = All-last size place waiting rest popped before.waits in
    let next = slice_get_read above size place c.index-above-place.result (sym c.requires.above_size) inside c.index-above-place.is in
    let listed = slice_get_read owners size place c.index-owners-place.result (sym c.requires.owners_size) inside c.index-owners-place.is in
    let m = c.in_ok-mark_all.ensures.more in
    let marked = rw c.as_slice-in-Some.ensures at c.in_ok-mark_all.ensures.marked in
    record {
      size = m.size ∙ before.size;
      waits = All-waits size place waiting before.size popped before.waits m;
      kept = λ p on. m.kept p (before.kept p on);
      climbed = rw (c.in_ok-extend_from_slice.ensures.items, c.as_slice.ensures) (AreClimbed-step place c.index-above-place.result c.index-owners-place.result
          before.climbed popped next listed m marked);
      within = λ bound below. rw (c.in_ok-extend_from_slice.ensures.items, c.as_slice.ensures)
          (All-append (λ state. state < bound) c.loop-place.found.items c.index-owners-place.result.items (before.within bound below)
          (AreListedBelow-all place c.index-owners-place.result below listed));
    }
