use Rattle.std.proofs.Common.{◌≡◌, ◌<◌, ℕ, vec_len, get_or}
use Rattle.auto_reduce.proofs.quotient.class_numbers.Given as goal

abbrev pub invariant-loop-state : goal.invariant-loop-state
invariant-loop-state l = record {
  size : vec_len l.table ≡ l.state-index;
  at : (k : ℕ) → k < l.state-index → get_or l.table.items k 0 ≡ get_or l.numbers (get_or l.canon k 0) 0;
}
