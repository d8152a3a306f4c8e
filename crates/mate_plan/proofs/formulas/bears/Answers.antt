use Rattle.lin_formula.specs.TreeOf.{tree_of}
use Rattle.rule_formula.specs.Trees.{bear_of}
use Rattle.mate_plan.proofs.Taken.{mapped-more}
use Rattle.mate_plan.proofs.formulas.bears.Goals as goal

pub loop-b-preserved : goal.loop-b-preserved
loop-b-preserved c =
    mapped-more tree_of (λ b. bear_of c.args.bench.now.position.now.men c.args.source.mask b.man b.ray b.king c.args.source.set.0) c.args.bearings.now
    c.loop-b.b-index _ c.loop-b.formulas.items c.push.new.self.items c.in_ok-bear.bear c.loop-b-test.true c.in_ok-push.ensures.items c.loop-b.invariant c.in_ok-bear.ensures.tree
