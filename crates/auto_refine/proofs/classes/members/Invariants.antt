use Rattle.std.proofs.Common.{◌≡◌, ◌<◌, ◌≤◌, ℕ, length, vec_len, get_or}
use Rattle.std.specs.List.{All}
use Rattle.auto_refine.proofs.classes.members.Given as goal

abbrev pub invariant-loop-state : goal.invariant-loop-state
invariant-loop-state l = record {
  size : vec_len l.members ≡ l.partition.count;
  within : All (λ state. state < length l.partition.classes.items) l.members.items;
  has : (k : ℕ) → l.state ≤ k → k < length l.partition.classes.items → get_or l.partition.classes.items
      (get_or l.members.items (get_or l.partition.classes.items k 0) 0) 0 ≡ get_or l.partition.classes.items k 0;
  first : (k : ℕ) → l.state ≤ k → k < length l.partition.classes.items → get_or l.members.items (get_or l.partition.classes.items k 0) 0 ≤ k;
}
