use Rattle.std.proofs.Common.{suc, length}
use Rattle.lin_formula.specs.TreeOf.{tree_of}
use Rattle.line_formula.specs.Places.{home}
use Rattle.line_engine.specs.Nodes.{position_of}
use Rattle.line_engine.proofs.PartLemmas.{first_is, first_tree}
use Rattle.line_engine.proofs.StepLemmas.{node_few}
use Rattle.line_engine.proofs.parts.begun.Goals as goal

pub narrowed-requires-clause-set : goal.narrowed-requires-clause-set
narrowed-requires-clause-set c = rw c.count-count.ensures c.requires.set

pub narrowed-requires-clause-part : goal.narrowed-requires-clause-part
narrowed-requires-clause-part c =
    let step = c.args.step.now in
    let p = position_of step.before.crowd in
    let path = step.before.path.now in
    let tree = first_tree p path step.option step.leg c.count-count.result (tree_of c.in_ok-first.first) c.count-count.ensures step.leg_is (c.in_ok-first.ensures (home p.men)) in
    (suc (length path), rw (tree, c.count-count.ensures) (first_is p path step.option (node_few step.before)))

pub returns-clause-answers : goal.returns-clause-answers
returns-clause-answers c a is =
    let step = c.args.step.now in
    let p = position_of step.before.crowd in
    let path = step.before.path.now in
    let tree = first_tree p path step.option step.leg c.count-count.result (tree_of c.in_ok-first.first) c.count-count.ensures step.leg_is (c.in_ok-first.ensures (home p.men)) in
    rw (tree, c.count-count.ensures) at (c.narrowed.ensures.answers a is)

pub returns-clause-set : goal.returns-clause-set
returns-clause-set c =
    let step = c.args.step.now in
    let p = position_of step.before.crowd in
    let path = step.before.path.now in
    let tree = first_tree p path step.option step.leg c.count-count.result (tree_of c.in_ok-first.first) c.count-count.ensures step.leg_is (c.in_ok-first.ensures (home p.men)) in
    c.narrowed.ensures.set (suc (length path)) (rw (tree, c.count-count.ensures) (first_is p path step.option (node_few step.before)))

pub narrowed-requires-clause-few : goal.narrowed-requires-clause-few
narrowed-requires-clause-few c = rw c.count-count.ensures (node_few c.args.step.now.before)
