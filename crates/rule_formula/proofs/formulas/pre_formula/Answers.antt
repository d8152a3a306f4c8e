use Rattle.std.proofs.lemmas.Result.{IfOk-weaker}
use Rattle.lin_formula.specs.SetOf.{members}
use Rattle.rule_formula.proofs.MeaningLemmas.{pre_told}
use Rattle.rule_formula.proofs.SizeTheorem.{pre_modest, pre_names}
use Rattle.rule_formula.proofs.formulas.pre_formula.Goals as goal

pub returns-clause-means : goal.returns-clause-means
returns-clause-means c =
    let a = c.args in
    IfOk-weaker c.pre_at.result _ _
    (λ f h e. pre_told a.sets.before.0 a.sets.after.0 _ c.pre_at.ensures.few c.requires h (members e))
    c.pre_at.ensures.tree

pub returns-clause-modest : goal.returns-clause-modest
returns-clause-modest c =
    let a = c.args in
    IfOk-weaker c.pre_at.result _ _
    (λ f h. pre_modest a.sets.before.0 a.sets.after.0 _ c.pre_at.ensures.few c.requires h)
    c.pre_at.ensures.tree

pub returns-clause-names : goal.returns-clause-names
returns-clause-names c =
    let a = c.args in
    IfOk-weaker c.pre_at.result _ _
    (λ f h. pre_names a.sets.before.0 a.sets.after.0 _ c.pre_at.ensures.few c.requires h)
    c.pre_at.ensures.tree
