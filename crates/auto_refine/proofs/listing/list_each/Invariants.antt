use Rattle.std.proofs.Common.{◌≡◌, map, vec_len}
use Rattle.auto_refine.proofs.Listings.{AreListedTo}
use Rattle.auto_refine.proofs.listing.list_each.Given as goal

abbrev pub invariant-loop-turn : goal.invariant-loop-turn
invariant-loop-turn l = record {
  size : vec_len l.lists ≡ vec_len l.initial.lists;
  to : AreListedTo (map (λ list. list.items) l.initial.lists.items) l.states l.classes (map (λ list. list.items) l.lists.items) l.turn;
}
