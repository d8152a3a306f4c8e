use Rattle.formula_auto.proofs.Accessible.{accessible}
use Rattle.formula_auto.proofs.BothOk.{both_ok}
use Rattle.formula_auto.proofs.Operands.{decides-by}
use Rattle.formula_auto.proofs.steps.product_within.Goals as goal

pub returns-clause-decides : goal.returns-clause-decides
returns-clause-decides c =
    both_ok c.merged_product_within.result _ _ _ (λ made tracks words. decides-by c.args.connective tracks words) c.merged_product_within.ensures.tracks c.merged_product_within.ensures.words

pub returns-clause-accessible : goal.returns-clause-accessible
returns-clause-accessible c = accessible c.merged_product_within.result c.args.budget c.merged_product_within.ensures.reached c.merged_product_within.ensures.few
