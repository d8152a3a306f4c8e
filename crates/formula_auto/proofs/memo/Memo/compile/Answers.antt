use Rattle.std.proofs.lemmas.Result.{IfOk-weaker, IfErr-weaker}
use Rattle.formula_auto.proofs.BothOk.{either_way}
use Rattle.formula_auto.proofs.Stable.{Decides-integers}
use Rattle.formula_auto.proofs.WithMemo.{stopped-first}
use Rattle.formula_auto.proofs.memo.Memo.compile.Goals as goal

pub returns-clause-reduced : goal.returns-clause-reduced
returns-clause-reduced c = IfOk-weaker c.whole.result _ _ (λ a made. made.reduced) c.whole.ensures.compiled

pub returns-clause-decides : goal.returns-clause-decides
returns-clause-decides c = rw c.meets-meets.ensures.sets at (IfOk-weaker c.whole.result _ _ (λ a made. made.decides) c.whole.ensures.compiled)

pub returns-clause-integers : goal.returns-clause-integers
returns-clause-integers c =
    IfOk-weaker c.whole.result _ _ (λ a made. Decides-integers made.decides) c.whole.ensures.compiled

pub returns-clause-within : goal.returns-clause-within
returns-clause-within c = rw c.meets-meets.ensures.sets at (IfOk-weaker c.whole.result _ _ (λ a made. made.within) c.whole.ensures.compiled)

pub returns-clause-over : goal.returns-clause-over
returns-clause-over c = rw c.meets-meets.ensures.sets at (IfErr-weaker c.whole.result _ _ (λ why h. h.error) c.whole.ensures.err)

pub returns-clause-budget : goal.returns-clause-budget
returns-clause-budget c =
    either_way c.whole.result _ _ (λ a after. after.budget) (λ why h. h.stopped.after.budget) c.whole.ensures.after c.whole.ensures.err

pub returns-clause-stopped : goal.returns-clause-stopped
returns-clause-stopped c =
    IfErr-weaker c.whole.result _ _ (λ why h. stopped-first h.stopped) c.whole.ensures.err
