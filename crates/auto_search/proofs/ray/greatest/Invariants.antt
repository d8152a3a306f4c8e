use Rattle.std.proofs.Common.{◌<◌, ◌≤◌, ◌^◌, ℕ, pos, unsigned_abs, slice_index_or}
use Rattle.auto_search.proofs.ray.greatest.Given as goal

abbrev pub invariant-loop-value : goal.invariant-loop-value
invariant-loop-value l = record {
  bound : (k : ℕ) → k < l.value-index → unsigned_abs (slice_index_or l.values k (pos 0)) ≤ l.most;
  small : l.most ≤ 2 ^ 63;
}
