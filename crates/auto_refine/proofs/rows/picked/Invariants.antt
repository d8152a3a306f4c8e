use Rattle.std.proofs.Common.{◌≡◌, ◌<◌, ℕ, vec_len, get_or}
use Rattle.auto_refine.proofs.rows.picked.Given as goal

abbrev pub invariant-loop-state : goal.invariant-loop-state
invariant-loop-state l = record {
  size : vec_len l.picked ≡ l.state-index;
  at : (k : ℕ) → k < l.state-index → get_or l.picked.items k 0 ≡ get_or l.rows (get_or l.order k 0) 0;
}
