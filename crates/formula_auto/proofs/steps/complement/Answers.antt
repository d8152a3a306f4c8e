use Rattle.formula_auto.proofs.Accessible.{AllReached-turned, no_larger-turned}
use Rattle.formula_auto.proofs.BothOk.{both_ok}
use Rattle.formula_auto.proofs.Parts.{Decides-Not}
use Rattle.formula_auto.proofs.steps.complement.Goals as goal

pub returns-clause-decides : goal.returns-clause-decides
returns-clause-decides c =
    both_ok c.not.result _ _ _ (λ made tracks words f e part. Decides-Not made part tracks words) c.not.ensures.tracks c.not.ensures.words

pub returns-clause-reached : goal.returns-clause-reached
returns-clause-reached c = AllReached-turned c.not.result c.args.a.now c.not.ensures.tracks c.not.ensures.first c.not.ensures.next c.not.ensures.accept

pub returns-clause-fewer : goal.returns-clause-fewer
returns-clause-fewer c = no_larger-turned c.not.result c.args.a.now c.not.ensures.accept
