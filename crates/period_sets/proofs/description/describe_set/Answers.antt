use Rattle.std.proofs.lemmas.Result.{err_from_is_err_and}
use Rattle.period_sets.proofs.Starts.{repeating-of, runs-error}
use Rattle.period_sets.proofs.description.describe_set.Goals as goal

pub residues_of-requires : goal.residues_of-requires
residues_of-requires c =
    rw c.in_ok-set.ensures (repeating-of c.args.a.now c.args.budget c.in_ok-start.start c.in_ok-start.ensures.found)

pub returns-in_err-runs-clause-err : goal.returns-in_err-runs-clause-err
returns-in_err-runs-clause-err c =
    let p = err_from_is_err_and c.from_residual-in_err-runs.result c.from_residual-in_err-runs.ensures.1 in
    rw (p.1, p.2)
    (runs-error c.args.a.now c.args.budget c.in_ok-start.start c.in_ok-start.ensures.found _ (rw c.in_ok-set.ensures at c.in_err-runs.ensures.err))
