use Rattle.std.proofs.lemmas.Result.{IfOk-weaker}
use Rattle.lin_formula.specs.SetOf.{members}
use Rattle.rule_formula.proofs.TwinsTheorem.{twins_means}
use Rattle.rule_formula.proofs.SizeTheorem.{twins_modest, twins_names}
use Rattle.rule_formula.proofs.formulas.twins_formula.Goals as goal

pub returns-clause-means : goal.returns-clause-means
returns-clause-means c =
    IfOk-weaker c.twins.result _ _ (λ f h e. twins_means c.args.source.0 _ c.requires.first c.requires.second h (members e)) c.twins.ensures

pub returns-clause-modest : goal.returns-clause-modest
returns-clause-modest c =
    IfOk-weaker c.twins.result _ _ (λ f h. twins_modest c.args.source.0 _ c.requires.order c.requires.first c.requires.second h) c.twins.ensures

pub returns-clause-names : goal.returns-clause-names
returns-clause-names c =
    IfOk-weaker c.twins.result _ _ (λ f h. twins_names c.args.source.0 _ c.requires.order c.requires.first c.requires.second h) c.twins.ensures
