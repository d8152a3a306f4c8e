use Rattle.std.proofs.Common.{ℕ, ◌<◌, ◌≤◌}
use Rattle.winning_sets.specs.Solve.{kept_at, states_of}
use Rattle.winning_sets.proofs.solved.Solved.most_states.Given as goal

abbrev pub invariant-loop-ply : goal.invariant-loop-ply
invariant-loop-ply l = record {
  within : (i : ℕ) → i < l.ply → (mask : ℕ) → states_of (kept_at l.self i mask) ≤ l.most;
  least : (n : ℕ) → ((ply mask : ℕ) → states_of (kept_at l.self ply mask) ≤ n) → l.most ≤ n;
}
