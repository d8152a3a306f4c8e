use Rattle.std.proofs.lemmas.Result.{IfOk-weaker, on_ok_weaker}
use Rattle.formula_auto.proofs.SameAutomata.{back, both_exceed, both_of_same}
use Rattle.formula_auto.proofs.steps.reduced_product.Goals as goal

pub product_within-requires : goal.product_within-requires
product_within-requires c = rw (c.in_ok-left.ensures.same.tracks, c.in_ok-right.ensures.same.tracks) c.requires

pub returns-clause-decides : goal.returns-clause-decides
returns-clause-decides c =
    IfOk-weaker c.product_within.result _ _ (λ made decides. both_of_same c.args.connective c.in_ok-left.ensures.same c.in_ok-right.ensures.same decides) c.product_within.ensures.decides

pub returns-clause-over : goal.returns-clause-over
returns-clause-over c = λ over.
    both_exceed c.args.budget (back c.in_ok-left.ensures.same) (back c.in_ok-right.ensures.same)
    (c.product_within.ensures.over c.in_ok-left.ensures.reduced c.in_ok-right.ensures.reduced over)

pub returns-clause-within : goal.returns-clause-within
returns-clause-within c =
    on_ok_weaker c.product_within.result (λ within over. within (both_exceed c.args.budget c.in_ok-left.ensures.same c.in_ok-right.ensures.same over)) c.product_within.ensures.within
