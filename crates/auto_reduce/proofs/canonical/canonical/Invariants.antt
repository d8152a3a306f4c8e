use Rattle.std.proofs.Common.{◌≡◌, ◌<◌, ℕ, vec_len, get_or}
use Rattle.auto_reduce.proofs.canonical.canonical.Given as goal

abbrev pub invariant-loop-class : goal.invariant-loop-class
invariant-loop-class l = record {
  size : vec_len l.canon ≡ l.class-index;
  values : (k : ℕ) → k < l.class-index → get_or l.canon.items k 0 ≡ get_or l.members.items (get_or l.class-items k 0) 0;
}
