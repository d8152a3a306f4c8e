use Rattle.std.proofs.lemmas.Result.{IfOk-weaker, IfErr-weaker}
use Rattle.formula_auto.proofs.BothOk.{either_way}
use Rattle.formula_auto.proofs.Stable.{Decides-integers}
use Rattle.formula_auto.proofs.StillKept.{still_same}
use Rattle.formula_auto.proofs.memo.Memo.compile_uncached.Goals as goal

pub returns-clause-reached : goal.returns-clause-reached
returns-clause-reached c = IfOk-weaker c.whole_on.result _ _ (λ a compiled. compiled.reached) c.whole_on.ensures.compiled

pub returns-clause-few : goal.returns-clause-few
returns-clause-few c = IfOk-weaker c.whole_on.result _ _ (λ a compiled. compiled.few) c.whole_on.ensures.compiled

pub returns-clause-decides : goal.returns-clause-decides
returns-clause-decides c = IfOk-weaker c.whole_on.result _ _ (λ a compiled. compiled.made.decides) c.whole_on.ensures.compiled

pub returns-clause-integers : goal.returns-clause-integers
returns-clause-integers c =
    IfOk-weaker c.whole_on.result _ _ (λ a compiled. Decides-integers compiled.made.decides) c.whole_on.ensures.compiled

pub returns-clause-within : goal.returns-clause-within
returns-clause-within c = IfOk-weaker c.whole_on.result _ _ (λ a compiled. compiled.made.within) c.whole_on.ensures.compiled

pub returns-clause-over : goal.returns-clause-over
returns-clause-over c = IfErr-weaker c.whole_on.result _ _ (λ why h. h.error) c.whole_on.ensures.err

pub returns-clause-same : goal.returns-clause-same
returns-clause-same c =
    either_way c.whole_on.result _ _ (λ a after. still_same after) (λ why h. still_same h.stopped.after) c.whole_on.ensures.after c.whole_on.ensures.err
