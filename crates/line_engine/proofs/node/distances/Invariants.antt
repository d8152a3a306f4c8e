use Rattle.std.proofs.Common.{◌≡◌}
use Rattle.line_plan.specs.Plan.{distances}
use Rattle.line_engine.proofs.node.distances.Given as goal

abbrev pub invariant-loop-n : goal.invariant-loop-n
invariant-loop-n l = l.vars.items ≡ distances l.n
