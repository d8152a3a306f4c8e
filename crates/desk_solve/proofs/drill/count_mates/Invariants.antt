use Rattle.std.proofs.Common.{◌≡◌}
use Rattle.desk_solve.specs.Drill.{DrillFinds, state_after}
use Rattle.desk_solve.proofs.drill.count_mates.Given as goal

abbrev pub invariant-loop-number : goal.invariant-loop-number
invariant-loop-number l = record {
  state : l.generator.state ≡ state_after l.seed l._number;
  found : DrillFinds l.seed l._number l.mates;
}
