use Rattle.std.proofs.lemmas.Result.{IfOk-weaker}
use Rattle.rule_formula.specs.Trees.{pre_tree}
use Rattle.rule_formula.proofs.PathLemmas.{option_journey, tree_at}
use Rattle.rule_formula.proofs.formulas.pre_at.Goals as goal

pub journey-journey-requires : goal.journey-journey-requires
journey-journey-requires c = option_journey c.requires

pub returns-clause-tree : goal.returns-clause-tree
returns-clause-tree c =
    let a = c.args in
    let j = c.journey-journey.ensures in
    IfOk-weaker c.pre.result _ _
    (λ f h. tree_at (λ n m i r t. pre_tree n m i r t a.sets.before.0 a.sets.after.0) _ _ _ _ _ _ _ _ _ _ _ h c.live_men.ensures.count c.live_men.ensures.mask j.man j.ray j.taken)
    c.pre.ensures
