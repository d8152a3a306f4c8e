use Rattle.std.proofs.Common.{◌+◌, ◌∙◌, sym, arith}
use Rattle.std.proofs.lemmas.Result.{err_from_is_err_and}
use Rattle.std.specs.Prelude.{is_some}
use Rattle.desk_solve.proofs.Passed.{ArePassed, found_at, none_found, passed_more}
use Rattle.desk_solve.proofs.least.least_moves.Goals as goal
use Rattle.desk_solve.proofs.least.least_moves.Goals.{else-loop-moves-test, then-loop-moves-test+in_ok-mates_within+else-is_some+else-moves-limit}

pub returns-in_err-mates_within-clause-step : goal.returns-in_err-mates_within-clause-step
returns-in_err-mates_within-clause-step c =
    let inv = c.loop-moves.invariant in
    let p = err_from_is_err_and c.from_residual.result c.from_residual.ensures.1 in
    rw (p.1, p.2) (λ step is. (c.loop-moves.moves, omega arith, inv.passed, rw (inv.problem, inv.budget) at (c.in_err-mates_within.ensures.step step is)))

pub returns-then-is_some-clause-found : goal.returns-then-is_some-clause-found
returns-then-is_some-clause-found c =
    let inv = c.loop-moves.invariant in
    let task = c.args.task.now in
    found_at task.problem task.budget task.moves c.loop-moves.moves (is_some c.in_ok-mates_within.field-0) (omega arith) inv.passed
    (rw (inv.problem, inv.budget) at c.in_ok-mates_within.ensures.fits) (rw inv.problem at c.in_ok-mates_within.ensures.won) (sym c.is_some.ensures ∙ c.if-is_some.true)

pub loop-moves-preserved : goal.loop-moves-preserved
loop-moves-preserved c =
    let inv = c.loop-moves.invariant in
    let task = c.args.task.now in
    record {
      problem = c.mates_within.ensures.problem ∙ inv.problem;
      budget = c.mates_within.ensures.budget ∙ inv.budget;
      passed =
          passed_more task.problem task.budget c.loop-moves.moves (is_some c.in_ok-mates_within.field-0) inv.passed (rw (inv.problem, inv.budget) at c.in_ok-mates_within.ensures.fits)
          (rw inv.problem at c.in_ok-mates_within.ensures.won) (sym c.is_some.ensures ∙ c.if-is_some.false);
    }

pub returns-clause-found : goal.returns-clause-found
returns-clause-found c =
    let inv = c.loop-moves.invariant in
    let task = c.args.task.now in
    elim c.loop-moves-test.branch [
      | else-loop-moves-test w ↦ none_found task.problem task.budget task.moves c.loop-moves.moves (omega arith) inv.passed
      | then-loop-moves-test+in_ok-mates_within+else-is_some+else-moves-limit w ↦
          let more : ArePassed task.problem task.budget (c.loop-moves.moves + 1) =
          passed_more task.problem task.budget c.loop-moves.moves (is_some w.in_ok-mates_within.field-0) inv.passed (rw (inv.problem, inv.budget) at w.in_ok-mates_within.ensures.fits)
          (rw inv.problem at w.in_ok-mates_within.ensures.won) (sym w.is_some.ensures ∙ w.if-is_some.false) in
          none_found task.problem task.budget task.moves (c.loop-moves.moves + 1) (omega arith) more
    ]
