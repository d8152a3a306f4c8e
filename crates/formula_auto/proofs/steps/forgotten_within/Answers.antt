use Rattle.formula_auto.proofs.Accessible.{accessible, ExSpreadExceeds-from_sets}
use Rattle.formula_auto.proofs.BothOk.{both_ok}
use Rattle.formula_auto.proofs.Projections.{Decides-Ex}
use Rattle.formula_auto.proofs.steps.forgotten_within.Goals as goal

pub returns-clause-decides : goal.returns-clause-decides
returns-clause-decides c =
    both_ok c.forget_within.result _ _ _ (λ made tracks words f e part. Decides-Ex c.args.var made part tracks words)
    c.forget_within.ensures.tracks c.forget_within.ensures.words

pub returns-clause-accessible : goal.returns-clause-accessible
returns-clause-accessible c = accessible c.forget_within.result c.args.budget c.forget_within.ensures.reached c.forget_within.ensures.few

pub returns-clause-over : goal.returns-clause-over
returns-clause-over c = λ reduced over. ExSpreadExceeds-from_sets c.args.var c.args.a.now c.states.ensures.valid reduced (c.forget_within.ensures.over over)
