use Rattle.std.proofs.lemmas.Result.{IfOk-weaker}
use Rattle.lin_formula.specs.SetOf.{members}
use Rattle.rule_formula.proofs.MeaningLemmas.{image_told}
use Rattle.rule_formula.proofs.SizeTheorem.{image_modest, image_names}
use Rattle.rule_formula.proofs.formulas.image_formula.Goals as goal

pub returns-clause-means : goal.returns-clause-means
returns-clause-means c =
    let a = c.args in
    IfOk-weaker c.image_at.result _ _
    (λ f h e. image_told a.source.0 _ c.image_at.ensures.few c.requires h (members e))
    c.image_at.ensures.tree

pub returns-clause-modest : goal.returns-clause-modest
returns-clause-modest c =
    let a = c.args in
    IfOk-weaker c.image_at.result _ _
    (λ f h. image_modest a.source.0 _ c.image_at.ensures.few c.requires h)
    c.image_at.ensures.tree

pub returns-clause-names : goal.returns-clause-names
returns-clause-names c =
    let a = c.args in
    IfOk-weaker c.image_at.result _ _
    (λ f h. image_names a.source.0 _ c.image_at.ensures.few c.requires h)
    c.image_at.ensures.tree
