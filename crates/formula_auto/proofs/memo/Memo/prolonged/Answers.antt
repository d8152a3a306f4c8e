use Rattle.std.proofs.Common.{refl}
use Rattle.std.proofs.lemmas.Result.{IfOk-weaker, IfErr-weaker, err_from_is_err_and}
use Rattle.formula_auto.proofs.Chains.{next-after, out_of_memory}
use Rattle.formula_auto.proofs.memo.Memo.prolonged.Goals as goal

pub returns-in_err-rest-clause-err : goal.returns-in_err-rest-clause-err
returns-in_err-rest-clause-err c =
    let p = err_from_is_err_and c.from_residual.result c.from_residual.ensures.1 in
    rw p.1 (λ f e is. out_of_memory p.2)

pub put_next-requires-clause-left : goal.put_next-requires-clause-left
put_next-requires-clause-left c =
    let made = rw c.in_ok-rest.ensures.same at c.in_ok-made-in-None.ensures in
    let left = c.requires.left in
    rw c.in_ok-rest.ensures.same
    (record { left = left.left; sets = left.sets; is = made.is left.left left.sets left.is; fits = left.fits })

pub returns-in-Some-clause-ok : goal.returns-in-Some-clause-ok
returns-in-Some-clause-ok c =
    let longer = rw c.in-Some.is at c.in_ok-rest.ensures.longer in
    record { done = refl; puts = λ f e fits is. longer f e c.args.next.step fits is }

pub returns-in_ok-made-in-None-clause-ok : goal.returns-in_ok-made-in-None-clause-ok
returns-in_ok-made-in-None-clause-ok c =
    let made = rw c.in_ok-rest.ensures.same at c.in_ok-made-in-None.ensures in
    IfOk-weaker c.put_next.result _ _ (λ link h. next-after made h) (rw c.in_ok-rest.ensures.same at c.put_next.ensures.ok)

pub returns-in_ok-made-in-None-clause-err : goal.returns-in_ok-made-in-None-clause-err
returns-in_ok-made-in-None-clause-err c =
    let made = rw c.in_ok-rest.ensures.same at c.in_ok-made-in-None.ensures in
    IfErr-weaker c.put_next.result _ _ (λ why h. λ f e is. h f e (made.is f e is)) (rw c.in_ok-rest.ensures.same at c.put_next.ensures.err)
