use Rattle.std.proofs.lemmas.Result.{err_from_is_err_and, on_ok_weaker}
use Rattle.lin_formula.specs.TreeOf.{tree_of}
use Rattle.arith_desk.proofs.Answering.{asked_within, memory_over}
use Rattle.arith_desk.proofs.deciding.decide_closed.Goals as goal

pub returns-in_err-free-in-Ex-clause-over : goal.returns-in_err-free-in-Ex-clause-over
returns-in_err-free-in-Ex-clause-over c =
    let p = err_from_is_err_and c.from_residual.result c.from_residual.ensures.1 in
    rw (c.in-Ex.is, p.1, p.2) (memory_over c.in-Ex.var (tree_of c.in-Ex.body.value) c.args.budget)

pub returns-then-free-clause-within : goal.returns-then-free-clause-within
returns-then-free-clause-within c =
    let free = (rw c.deref.ensures at c.in_ok-free-in-Ex.ensures).0 c.if-free.true in
    rw c.in-Ex.is
    (on_ok_weaker c.seek.result (λ h. asked_within c.in-Ex.var (tree_of c.in-Ex.body.value) c.args.budget free h) (rw c.deref-then-free.ensures at c.seek.ensures.within))
