use Rattle.std.proofs.Common.{ℕ, ◌<◌}
use Rattle.auto_bool.specs.Absorbed.{IsSink}
use Rattle.auto_bool.proofs.sink.sink.Given as goal

abbrev pub invariant-loop-state : goal.invariant-loop-state
invariant-loop-state l = (other : ℕ) → other < l.state → IsSink l.a l.flag other → ⊥
