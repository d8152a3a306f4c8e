use Rattle.std.proofs.Common.{rules, arith, ◌≡◌, ℕ, List, Vec, Global, length, map, get_or, refl}
use Rattle.std.proofs.lemmas.List.{length-map}
use Rattle.auto_refine.proofs.Listings.{AreListedTo-put}
use Rattle.auto_refine.proofs.listing.list_each.Goals as goal

pub loop-turn-preserved : goal.loop-turn-preserved
loop-turn-preserved c =
    let f : Vec ℕ Global → List ℕ = (λ list. list.items) in
    let lists = c.loop-turn.lists.items in
    let states = c.args.states.now in
    let classes = c.args.classes.now in
    let turn = c.loop-turn.turn in
    let size = c.loop-turn.invariant.size in
    let len : length lists ≡ c.loop-turn.lists.len = search rules in
    let mapped = length-map lists f in
    let below = c.requires.within turn 0 (omega (arith, c.loop-turn-test.true, c.requires.same)) in
    record {
      size = search rules;
      to = AreListedTo-put (map f c.list.new.lists.items) (get_or classes turn 0) (get_or states turn 0) c.loop-turn.invariant.to
          c.loop-turn-test.true (omega (arith, below, size, len, mapped)) refl refl c.in_ok-list.ensures.lists;
    }
