use Rattle.std.proofs.lemmas.Result.{IfOk-weaker, on_ok_weaker}
use Rattle.formula_auto.proofs.SameAutomata.{back, still_decides, ex_exceeds}
use Rattle.formula_auto.proofs.steps.reduced_forgotten.Goals as goal

pub returns-clause-decides : goal.returns-clause-decides
returns-clause-decides c =
    IfOk-weaker c.forgotten_within.result _ _ (λ made decides f e part. decides f e (still_decides c.in_ok-inner.ensures.same part)) c.forgotten_within.ensures.decides

pub returns-clause-over : goal.returns-clause-over
returns-clause-over c = λ over.
    ex_exceeds c.args.var c.args.budget (back c.in_ok-inner.ensures.same) (c.forgotten_within.ensures.over c.in_ok-inner.ensures.reduced over)

pub returns-clause-within : goal.returns-clause-within
returns-clause-within c =
    on_ok_weaker c.forgotten_within.result (λ within over. within (ex_exceeds c.args.var c.args.budget c.in_ok-inner.ensures.same over)) c.forgotten_within.ensures.within
