use Rattle.std.proofs.lemmas.Result.{IfOk-weaker}
use Rattle.lin_formula.specs.SetOf.{members}
use Rattle.rule_formula.proofs.MeaningLemmas.{bear_told}
use Rattle.rule_formula.proofs.SizeTheorem.{bear_modest, bear_names}
use Rattle.rule_formula.proofs.formulas.bear_formula.Goals as goal

pub returns-clause-means : goal.returns-clause-means
returns-clause-means c =
    let a = c.args in
    IfOk-weaker c.bear_at.result _ _
    (λ f h e. bear_told a.source.0 _ c.requires h (members e))
    c.bear_at.ensures.tree

pub returns-clause-modest : goal.returns-clause-modest
returns-clause-modest c =
    let a = c.args in
    IfOk-weaker c.bear_at.result _ _
    (λ f h. bear_modest a.source.0 _ c.bear_at.ensures.few c.requires h)
    c.bear_at.ensures.tree

pub returns-clause-names : goal.returns-clause-names
returns-clause-names c =
    let a = c.args in
    IfOk-weaker c.bear_at.result _ _
    (λ f h. bear_names a.source.0 _ c.bear_at.ensures.few c.requires h)
    c.bear_at.ensures.tree
