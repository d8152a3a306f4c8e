use Rattle.std.proofs.Common.{◌≡◌, map, vec_len}
use Rattle.auto_refine.specs.Listing.{IsListing}
use Rattle.auto_refine.proofs.Listings.{AreCandidatesTo}
use Rattle.auto_refine.proofs.moves.with_repeats.Given as goal

abbrev pub invariant-loop-state : goal.invariant-loop-state
invariant-loop-state l = record {
  size : vec_len l.lists ≡ vec_len l.initial.lists;
  listing : IsListing l.partition.classes.items l.partition.count l.representatives (map (λ list. list.items) l.lists.items);
  to : AreCandidatesTo l.partition.classes.items l.representatives l.stale l.found.items l.state-index;
}
