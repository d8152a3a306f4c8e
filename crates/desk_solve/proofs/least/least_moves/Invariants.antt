use Rattle.std.proofs.Common.{◌≡◌}
use Rattle.desk_solve.proofs.Passed.{ArePassed}
use Rattle.desk_solve.proofs.least.least_moves.Given as goal

abbrev pub invariant-loop-moves : goal.invariant-loop-moves
invariant-loop-moves l = record {
  problem : l.solver.problem ≡ l.task.problem;
  budget : l.solver.budget ≡ l.task.budget;
  passed : ArePassed l.task.problem l.task.budget l.moves;
}
