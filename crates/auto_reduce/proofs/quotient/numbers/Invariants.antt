use Rattle.std.proofs.Common.{◌≡◌, ◌<◌, ℕ, length, vec_len, get_or}
use Rattle.std.specs.List.{All}
use Rattle.auto_reduce.proofs.quotient.numbers.Given as goal

abbrev pub invariant-loop-place : goal.invariant-loop-place
invariant-loop-place l = record {
  size : vec_len l.numbers ≡ l.states;
  within : All (λ number. number < length l.order) l.numbers.items;
  at : (k : ℕ) → k < l.place → get_or l.numbers.items (get_or l.order k 0) 0 ≡ k;
}
