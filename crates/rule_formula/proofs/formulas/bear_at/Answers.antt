use Rattle.std.proofs.lemmas.Result.{IfOk-weaker}
use Rattle.rule_formula.specs.Trees.{bear_tree}
use Rattle.rule_formula.proofs.PathLemmas.{bearer_journey, tree_at}
use Rattle.rule_formula.proofs.formulas.bear_at.Goals as goal

pub journey-journey-requires : goal.journey-journey-requires
journey-journey-requires c = bearer_journey c.requires

pub returns-clause-tree : goal.returns-clause-tree
returns-clause-tree c =
    let a = c.args in
    let j = c.journey-journey.ensures in
    IfOk-weaker c.bear.result _ _
    (λ f h. tree_at (λ n m i r t. bear_tree n m i r t a.source.0) _ _ _ _ _ _ _ _ _ _ _ h c.live_men.ensures.count c.live_men.ensures.mask j.man j.ray j.taken)
    c.bear.ensures
