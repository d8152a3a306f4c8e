use Rattle.std.proofs.Common.{arith, ◌≡◌, length, get_or, subst, ◌∙◌}
use Rattle.std.proofs.lemmas.Option.{slice_get-get_or, slice_get_within}
use Rattle.auto_predecessors.specs.declared.ways.PlaceTarget.TheVariants.{State}
use Rattle.auto_predecessors.specs.Ways.{AreListedBelow}
use Rattle.auto_predecessors.proofs.Climbs.{FitsAt-later, AreListedBelow-adds, linked_more}
use Rattle.auto_predecessors.proofs.ways.link_all.Goals as goal

pub link-requires : goal.link-requires
link-requires c =
    let ways = c.args.ways.now in
    let place = c.loop-place.place in
    let way = get_or ways place (State 0) in
    let size = c.loop-place.invariant.above_size in
    let fits = c.requires.ways place way (slice_get-get_or ways place (State 0) c.loop-place-test.true) in
    rw c.loop-place.invariant.leaves_size (FitsAt-later (length c.args.leaves.now) place (length c.loop-place.above) way (omega (arith, size, c.requires.size, c.loop-place-test.true)) fits)

pub loop-place-preserved : goal.loop-place-preserved
loop-place-preserved c =
    let ways = c.args.ways.now in
    let place = c.loop-place.place in
    let before = c.loop-place.invariant in
    let e = c.in_ok-link.ensures in
    record {
      above_size = e.above.size ∙ before.above_size;
      leaves_size = e.leaves.size ∙ before.leaves_size;
      above_below = AreListedBelow-adds before.above_below e.above;
      leaves_below = AreListedBelow-adds before.leaves_below e.leaves;
      linked = linked_more ways (get_or ways place (State 0))
          before.linked e.above e.leaves (slice_get-get_or ways place (State 0) c.loop-place-test.true) e.linked;
    }

pub returns : goal.returns
returns c =
    let ways = c.args.ways.now in
    let end : c.loop-place.place ≡ length ways = (let to = c.loop-place.auto.place-end in omega (arith, to, c.loop-place-test.false)) in
    let before = c.loop-place.invariant in
    record {
      above_below = subst (AreListedBelow c.loop-place.above) end before.above_below;
      leaves_below = subst (AreListedBelow c.loop-place.leaves) end before.leaves_below;
      linked = λ place way is. before.linked place way (let within = slice_get_within ways place way is in omega (arith, end, within)) is;
    }
