use Rattle.std.proofs.Common.{◌≡◌, length}
use Rattle.auto_core.specs.Sums.{AreFlagsOf}
use Rattle.auto_core.proofs.lin.flags.Given as goal

abbrev pub invariant-loop-state : goal.invariant-loop-state
invariant-loop-state l = record {
  count : length l.flags.items ≡ l.state;
  tells : AreFlagsOf l.rel l.bound l.span l.flags.items;
}
