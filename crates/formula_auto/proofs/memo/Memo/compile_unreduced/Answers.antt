use Rattle.std.proofs.lemmas.Result.{IfOk-weaker, IfErr-weaker}
use Rattle.formula_auto.proofs.BothOk.{either_way}
use Rattle.formula_auto.proofs.Stable.{Decides-integers}
use Rattle.formula_auto.proofs.WithMemo.{stopped-first}
use Rattle.formula_auto.proofs.memo.Memo.compile_unreduced.Goals as goal

pub returns-clause-reached : goal.returns-clause-reached
returns-clause-reached c = IfOk-weaker c.whole_on.result _ _ (λ a compiled. compiled.reached) c.whole_on.ensures.compiled

pub returns-clause-few : goal.returns-clause-few
returns-clause-few c = IfOk-weaker c.whole_on.result _ _ (λ a compiled. compiled.few) c.whole_on.ensures.compiled

pub returns-clause-decides : goal.returns-clause-decides
returns-clause-decides c = IfOk-weaker c.whole_on.result _ _ (λ a compiled. compiled.made.decides) c.whole_on.ensures.compiled

pub returns-clause-integers : goal.returns-clause-integers
returns-clause-integers c =
    IfOk-weaker c.whole_on.result _ _ (λ a compiled. Decides-integers compiled.made.decides) c.whole_on.ensures.compiled

pub returns-clause-within : goal.returns-clause-within
returns-clause-within c = IfOk-weaker c.whole_on.result _ _ (λ a compiled. compiled.made.within) c.whole_on.ensures.compiled

pub returns-clause-over : goal.returns-clause-over
returns-clause-over c = IfErr-weaker c.whole_on.result _ _ (λ why h. h.error) c.whole_on.ensures.err

pub returns-clause-budget : goal.returns-clause-budget
returns-clause-budget c =
    either_way c.whole_on.result _ _ (λ a after. after.budget) (λ why h. h.stopped.after.budget) c.whole_on.ensures.after c.whole_on.ensures.err

pub returns-clause-stopped : goal.returns-clause-stopped
returns-clause-stopped c =
    IfErr-weaker c.whole_on.result _ _ (λ why h. stopped-first h.stopped) c.whole_on.ensures.err
