use Rattle.std.proofs.Common.{get_or, slice_set, arith}
use Rattle.std.proofs.lemmas.List.{length-set}
use Rattle.std.proofs.lemmas.Option.{slice_get-get_or}
use Rattle.auto_predecessors.specs.Ways.{IsListed, AddsListed}
use Rattle.auto_predecessors.proofs.Climbs.{IsListed-set, AddsListed-set, AddsListed-trans}
use Rattle.auto_predecessors.proofs.ways.link.Goals as goal

at_leaf : (c : goal.In_ok-push-in-State) → IsListed (slice_set c.args.leaves.now c.in-State.state c.push.new.self) c.in-State.state c.args.place
    × AddsListed c.args.leaves.now (slice_set c.args.leaves.now c.in-State.state c.push.new.self) c.args.place
at_leaf c =
    let leaves = c.args.leaves.now in
    let state = c.in-State.state in
    let list = get_or leaves state c.index-leaves-state.result in
    let at = slice_get-get_or leaves state c.index-leaves-state.result (rw c.in-State.is at c.requires) in
    let items = c.in_ok-push-in-State.ensures.ok in
    (IsListed-set leaves state c.args.place list c.push.new.self at items, AddsListed-set leaves state c.args.place list c.push.new.self at items)

pub returns-in_ok-push-in-State-clause-linked : goal.returns-in_ok-push-in-State-clause-linked
returns-in_ok-push-in-State-clause-linked c = rw c.in-State.is (at_leaf c).0

pub returns-in_ok-push-in-State-clause-leaves : goal.returns-in_ok-push-in-State-clause-leaves
returns-in_ok-push-in-State-clause-leaves c = (at_leaf c).1

at_both : (c : goal.In_ok-push-in-Both-2)
    → let more = slice_set (slice_set c.args.above.now c.in-Both.low c.push-in-Both.new.self) c.in-Both.high c.push-in-Both-2.new.self in
    (IsListed more c.in-Both.low c.args.place × IsListed more c.in-Both.high c.args.place) × AddsListed c.args.above.now more c.args.place
at_both c =
    let above = c.args.above.now in
    let place = c.args.place in
    let low = c.in-Both.low in
    let high = c.in-Both.high in
    let fits = rw c.in-Both.is at c.requires in
    let first_new = c.push-in-Both.new.self in
    let more = slice_set above low first_new in
    let here = slice_get-get_or above low c.index-above-low.result fits.0 in
    let first = IsListed-set above low place (get_or above low c.index-above-low.result) first_new here c.in_ok-push-in-Both.ensures.ok in
    let first_adds = AddsListed-set above low place (get_or above low c.index-above-low.result) first_new here c.in_ok-push-in-Both.ensures.ok in
    let size = length-set above low first_new in
    let high_fits = fits.1 in
    let list = get_or more high c.index-above-high.result in
    let at = slice_get-get_or more high c.index-above-high.result (omega (arith, size, high_fits)) in
    let items = c.in_ok-push-in-Both-2.ensures.ok in
    let adds = AddsListed-set more high place list c.push-in-Both-2.new.self at items in (
      (adds.kept low place first, IsListed-set more high place list c.push-in-Both-2.new.self at items),
      AddsListed-trans first_adds adds,
    )

pub returns-in_ok-push-in-Both-2-clause-linked : goal.returns-in_ok-push-in-Both-2-clause-linked
returns-in_ok-push-in-Both-2-clause-linked c = rw c.in-Both.is (at_both c).0

pub returns-in_ok-push-in-Both-2-clause-above : goal.returns-in_ok-push-in-Both-2-clause-above
returns-in_ok-push-in-Both-2-clause-above c = (at_both c).1
