use Rattle.std.proofs.Common.{length}
use Rattle.lin_formula.specs.Tree.{Not}
use Rattle.lin_formula.specs.TreeOf.{tree_of}
use Rattle.line_engine.proofs.EachLemmas.{narrow_none, none_if}
use Rattle.line_engine.proofs.StepLemmas.{bears_at, bears_tree, node_bears, node_few}
use Rattle.line_engine.proofs.parts.without_bearing.Goals as goal

pub bear-requires : goal.bear-requires
bear-requires c = record { two = rw c.scene.ensures.men c.requires.two }

pub leave_out-requires-clause-set : goal.leave_out-requires-clause-set
leave_out-requires-clause-set c = rw c.count.ensures c.requires.set

pub leave_out-requires-clause-part : goal.leave_out-requires-clause-part
leave_out-requires-clause-part c =
    let node = c.args.node.now in
    let tree = bears_tree node c.args.bearing c.scene.result.men.now c.scene.result.legs.now (tree_of c.in_ok-bears.bears) c.scene.ensures.men c.scene.ensures.legs c.in_ok-bears.ensures in
    rw (tree, c.count.ensures) (node_bears node c.args.bearing).1

pub returns-clause-answers : goal.returns-clause-answers
returns-clause-answers c =
    let node = c.args.node.now in
    let tree = bears_tree node c.args.bearing c.scene.result.men.now c.scene.result.legs.now (tree_of c.in_ok-bears.bears) c.scene.ensures.men c.scene.ensures.legs c.in_ok-bears.ensures in
    rw (tree, c.count.ensures) at c.leave_out.ensures.answers

pub returns-clause-set : goal.returns-clause-set
returns-clause-set c = rw c.count.ensures at c.leave_out.ensures.set

pub leave_out-requires-clause-few : goal.leave_out-requires-clause-few
leave_out-requires-clause-few c = rw c.count.ensures (node_few c.args.node.now)

pub returns-then-is_none-clause-answers : goal.returns-then-is_none-clause-answers
returns-then-is_none-clause-answers c =
    let node = c.args.node.now in
    narrow_none (length node.path.now) c.args.work.now.at c.args.work.now.memo.budget (Not (bears_at node c.args.bearing)) c.args.so_far
    (none_if c.args.so_far c.is_none.result c.is_none.ensures c.if-is_none.true)
