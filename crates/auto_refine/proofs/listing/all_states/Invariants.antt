use Rattle.std.proofs.Common.{◌≡◌, ◌<◌, ℕ, vec_len, get_or}
use Rattle.auto_refine.proofs.listing.all_states.Given as goal

abbrev pub invariant-loop-state : goal.invariant-loop-state
invariant-loop-state l = record {
  size : vec_len l.states ≡ l.state;
  each : (k : ℕ) → k < l.state → get_or l.states.items k 0 ≡ k;
}
