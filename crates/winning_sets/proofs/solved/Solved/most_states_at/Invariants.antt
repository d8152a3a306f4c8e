use Rattle.std.proofs.Common.{ℕ, ◌<◌, ◌≤◌, get_or}
use Rattle.winning_sets.specs.Solve.{kept_at, states_of}
use Rattle.winning_sets.proofs.solved.Solved.most_states_at.Given as goal

abbrev pub invariant-loop-mask : goal.invariant-loop-mask
invariant-loop-mask l = record {
  within : (j : ℕ) → j < l.mask-index → states_of (kept_at l.self l.ply (get_or l.mask-items j 0)) ≤ l.most;
  least : (n : ℕ) → ((mask : ℕ) → states_of (kept_at l.self l.ply mask) ≤ n) → l.most ≤ n;
}
