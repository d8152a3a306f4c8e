use Rattle.std.proofs.Common.{true, false}
use Rattle.desk_verdict.proofs.Values.{won_as}
use Rattle.desk_verdict.proofs.problem_solver.ProblemSolver.mates_within.Goals as goal

pub returns-then-verdict-clause-won : goal.returns-then-verdict-clause-won
returns-then-verdict-clause-won c =
    let self = c.args.self.now in
    won_as self.problem self.solver.position self.solver.winner c.args.moves c.in_ok-solved.solved c.verdict.result true self.of_position
    self.of_winner c.in_ok-solved.ensures.game c.verdict.ensures.mates c.if-verdict.true

pub returns-else-verdict-clause-won : goal.returns-else-verdict-clause-won
returns-else-verdict-clause-won c =
    let self = c.args.self.now in
    won_as self.problem self.solver.position self.solver.winner c.args.moves c.in_ok-solved.solved c.verdict.result false self.of_position
    self.of_winner c.in_ok-solved.ensures.game c.verdict.ensures.mates c.if-verdict.false
