use Rattle.std.proofs.Common.{◌≡◌, ◌<◌, ℕ, length, get_or}
use Rattle.auto_predecessors.specs.Ways.{IsListed, AreListedBelow}
use Rattle.auto_predecessors.proofs.ways.own_all.Given as goal

abbrev pub invariant-loop-state : goal.invariant-loop-state
invariant-loop-state l = record {
  size : length l.owners ≡ length l.initial.owners;
  below : AreListedBelow l.owners l.state;
  owned : (state : ℕ) → state < l.state → IsListed l.owners (get_or l.rows state 0) state;
}
