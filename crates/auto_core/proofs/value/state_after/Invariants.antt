use Rattle.std.proofs.Common.{◌≢◌, ◌<◌, ℕ}
use Rattle.std.specs.Int.{int_shr}
use Rattle.auto_core.proofs.value.state_after.Given as goal

abbrev pub invariant-loop-left : goal.invariant-loop-left
invariant-loop-left l = record { least : (k : ℕ) → k < l.left → int_shr l.value k ≢ l.read }
