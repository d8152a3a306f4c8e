use Rattle.std.proofs.Common.{rules, arith, ◌≡◌, ◌≢◌, ◌<◌, ◌∙◌, ℕ, [], List, Vec, Global, length, map, get_or, refl, sym, subst}
use Rattle.std.proofs.lemmas.List.{length-map, get_or_read}
use Rattle.std.proofs.lemmas.List.Elements.{All-get_or}
use Rattle.auto_refine.proofs.Listings.{list_read, IsListing-pruned, AreCandidatesTo, AreCandidatesTo-list, AreCandidatesTo-push, AreCandidates-to}
use Rattle.auto_refine.proofs.moves.with_repeats.Goals as goal
use Rattle.auto_refine.proofs.moves.with_repeats.Goals.{then-representatives-class+in_ok-prune+in_ok-extend_from_slice, else-representatives-class+in_ok-push}

pub loop-state-preserved : goal.loop-state-preserved
loop-state-preserved c =
    let f : Vec ℕ Global → List ℕ = (λ list. list.items) in
    let classes = c.args.partition.now.classes.items in
    let count = c.args.partition.now.count in
    let representatives = c.args.representatives.now in
    let lists = c.loop-state.lists.items in
    let stale = c.args.stale.now in
    let found = c.loop-state.found.items in
    let turn = c.loop-state.state-index in
    let state = get_or stale turn 0 in
    let class = c.index-class.result.now in
    let before = c.loop-state.invariant in
    let known : state < length classes = c.requires.stale turn 0 c.loop-state-test.true in
    let class_is = get_or_read classes state class known c.index-class.ensures 0 in
    let class_below = All-get_or (λ n. n < count) classes state 0 known c.requires.partition.within in
    elim c.if-representatives-class.branch [
      | then-representatives-class+in_ok-prune+in_ok-extend_from_slice w ↦
          let pruned = w.prune.new.lists.items in
          let listing = IsListing-pruned before.listing w.in_ok-prune.ensures.pruned in
          let mapped = length-map pruned f in
          let size = listing.size in
          let inside : class < length pruned = omega (arith, class_is, class_below, mapped, size) in
          let list_is = list_read f pruned class w.index.result.now [] inside w.index.ensures ∙ sym w.as_slice.ensures.value in
          let kept : w.prune.new.lists.len ≡ c.args.lists.now.len = search rules in
          rw (w.found-is, w.lists-is, w.in_ok-extend_from_slice.ensures.items) (record {
            size = kept;
            listing = listing;
            to = AreCandidatesTo-list (length classes) classes count representatives (map f pruned) listing c.requires.partition stale found turn
                state class before.to refl known class_is w.as_slice.result.now list_is;
          })
      | else-representatives-class+in_ok-push w ↦
          let other : get_or representatives class 0 ≢ state = w.if-representatives-class.false in
          rw (w.found-is, w.lists-is, w.in_ok-push.ensures.items) (record {
            size = before.size;
            listing = before.listing;
            to = AreCandidatesTo-push (length classes) classes count representatives (map f lists) before.listing c.requires.partition stale found turn state class before.to refl known class_is other;
          })
    ]

pub returns-clause-candidates : goal.returns-clause-candidates
returns-clause-candidates c =
    let end : c.loop-state.state-index ≡ length c.args.stale.now = (let to = c.loop-state.auto.state-index-end in omega (arith, to, c.loop-state-test.false)) in
    AreCandidates-to c.args.partition.now c.args.representatives.now c.args.stale.now c.loop-state.found.items
    (subst (AreCandidatesTo c.args.partition.now.classes.items c.args.representatives.now c.args.stale.now c.loop-state.found.items) end c.loop-state.invariant.to)
