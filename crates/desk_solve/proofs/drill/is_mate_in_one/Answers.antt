use Rattle.std.proofs.lemmas.Result.{err_from_is_err_and}
use Rattle.desk_solve.proofs.drill.is_mate_in_one.Goals as goal

pub returns-in_err-mates_within-clause-step : goal.returns-in_err-mates_within-clause-step
returns-in_err-mates_within-clause-step c =
    let p = err_from_is_err_and c.from_residual.result c.from_residual.ensures.1 in
    rw (p.1, p.2) (λ step is. rw (c.new-solver.ensures.problem, c.new-solver.ensures.budget, c.new.ensures) at (c.in_err-mates_within.ensures.step step is))

pub returns-clause-won : goal.returns-clause-won
returns-clause-won c = rw c.is_some.ensures (rw c.new-solver.ensures.problem at c.in_ok-mates_within.ensures.won)
