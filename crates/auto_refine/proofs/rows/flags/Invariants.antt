use Rattle.std.proofs.Common.{◌≡◌, ◌<◌, ℕ, vec_len, get_or, false}
use Rattle.auto_core.specs.Automaton.{is_final}
use Rattle.auto_refine.proofs.rows.flags.Given as goal

abbrev pub invariant-loop-state : goal.invariant-loop-state
invariant-loop-state l = record {
  size : vec_len l.flags ≡ l.state-index;
  at : (k : ℕ) → k < l.state-index → get_or l.flags.items k false ≡ is_final l.a (get_or l.order k 0);
}
