use Rattle.std.proofs.lemmas.Result.{IfOk-weaker}
use Rattle.lin_formula.specs.SetOf.{members}
use Rattle.rule_formula.proofs.MeaningLemmas.{safe_told}
use Rattle.rule_formula.proofs.SizeTheorem.{safe_modest, safe_names}
use Rattle.rule_formula.proofs.formulas.safe_formula.Goals as goal

pub returns-clause-means : goal.returns-clause-means
returns-clause-means c =
    let a = c.args in
    IfOk-weaker c.safe_at.result _ _
    (λ f h e. safe_told a.source.0 _ c.requires h (members e))
    c.safe_at.ensures.tree

pub returns-clause-modest : goal.returns-clause-modest
returns-clause-modest c =
    let a = c.args in
    IfOk-weaker c.safe_at.result _ _
    (λ f h. safe_modest a.source.0 _ c.safe_at.ensures.few c.requires h)
    c.safe_at.ensures.tree

pub returns-clause-names : goal.returns-clause-names
returns-clause-names c =
    let a = c.args in
    IfOk-weaker c.safe_at.result _ _
    (λ f h. safe_names a.source.0 _ c.safe_at.ensures.few c.requires h)
    c.safe_at.ensures.tree
