use Rattle.std.proofs.Common.{◌+◌, ◌-◌, ◌<◌, length}
use Rattle.winning_sets.specs.Solve.{IsSolverAfter}
use Rattle.winning_sets.proofs.solver.Solver.reach_to.Given as goal

abbrev pub invariant-plies : goal.invariant-plies
invariant-plies l = IsSolverAfter l.fn.self l.self × (0 < length l.self.reach)

abbrev pub decreases-plies : goal.decreases-plies
decreases-plies l = l.last + 1 - length l.self.reach
