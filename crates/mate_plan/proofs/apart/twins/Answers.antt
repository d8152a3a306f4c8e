use Rattle.lin_formula.specs.TreeOf.{tree_of}
use Rattle.rule_formula.specs.Trees.{twins_tree}
use Rattle.mate_plan.proofs.Taken.{mapped-more}
use Rattle.mate_plan.proofs.apart.twins.Goals as goal

pub loop-pair-preserved : goal.loop-pair-preserved
loop-pair-preserved c =
    mapped-more tree_of (λ w. twins_tree 8 c.args.source.mask w.first w.second c.args.source.set.0) c.args.pairs.now
    c.loop-pair.pair-index _ c.loop-pair.formulas.items c.push.new.self.items _ c.loop-pair-test.true c.in_ok-push.ensures.items c.loop-pair.invariant
    c.in_ok-twins_formula.ensures.tree
