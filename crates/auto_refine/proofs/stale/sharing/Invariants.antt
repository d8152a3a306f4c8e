use Rattle.std.proofs.Common.{◌<◌, ℕ, length, map, get_or}
use Rattle.std.specs.List.{All}
use Rattle.auto_refine.proofs.Stales.{IsSorted}
use Rattle.auto_refine.proofs.stale.sharing.Given as goal

abbrev pub invariant-loop-state : goal.invariant-loop-state
invariant-loop-state l = record {
  within : All (λ state. state < length l.partition.classes.items) l.sharing.items;
  sorted : (k : ℕ) → k < l.state-index → IsSorted (map (λ list. list.items) l.listing.lists.items) l.partition.classes.items l.sharing.items (get_or l.states k 0);
}
