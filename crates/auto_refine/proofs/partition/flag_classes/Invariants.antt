use Rattle.std.proofs.Common.{◌≡◌, ◌<◌, ℕ, vec_len, get_or}
use Rattle.auto_core.specs.Automaton.{is_final}
use Rattle.auto_refine.proofs.Rounds.{flag_class}
use Rattle.auto_refine.proofs.partition.flag_classes.Given as goal

abbrev pub invariant-loop-state : goal.invariant-loop-state
invariant-loop-state l = record {
  size : vec_len l.classes ≡ l.state;
  flags : (k : ℕ) → k < l.state → get_or l.classes.items k 0 ≡ flag_class (is_final l.a k) (is_final l.a 0);
}
