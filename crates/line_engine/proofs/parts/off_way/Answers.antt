use Rattle.std.proofs.Common.{sym, ◌∙◌}
use Rattle.lin_formula.specs.TreeOf.{tree_of}
use Rattle.line_engine.proofs.StepLemmas.{hit_tree, node_few, step_legs, step_off, step_small}
use Rattle.line_engine.proofs.parts.off_way.Goals as goal

pub on_way-requires-clause-men : goal.on_way-requires-clause-men
on_way-requires-clause-men c = c.scene-after.ensures.men ∙ c.args.step.now.men ∙ sym c.scene-before.ensures.men

pub on_way-requires-clause-legs : goal.on_way-requires-clause-legs
on_way-requires-clause-legs c = rw (c.scene-after.ensures.legs, c.scene-before.ensures.legs) (step_legs c.args.step.now)

pub on_way-requires-clause-small : goal.on_way-requires-clause-small
on_way-requires-clause-small c = step_small c.args.step.now

pub on_way-requires-clause-two : goal.on_way-requires-clause-two
on_way-requires-clause-two c = rw c.scene-before.ensures.men c.requires.two

pub leave_out-requires-clause-set : goal.leave_out-requires-clause-set
leave_out-requires-clause-set c = rw c.count.ensures c.requires.set

pub leave_out-requires-clause-part : goal.leave_out-requires-clause-part
leave_out-requires-clause-part c =
    let step = c.args.step.now in
    let tree = hit_tree step c.args.number c.scene-before.result.men.now c.scene-before.result.legs.now (tree_of c.in_ok-hit.hit)
    c.scene-before.ensures.men c.scene-before.ensures.legs c.in_ok-hit.ensures in
    rw (tree, c.count.ensures) (step_off step c.args.number)

pub returns-clause-answers : goal.returns-clause-answers
returns-clause-answers c =
    let step = c.args.step.now in
    let tree = hit_tree step c.args.number c.scene-before.result.men.now c.scene-before.result.legs.now (tree_of c.in_ok-hit.hit)
    c.scene-before.ensures.men c.scene-before.ensures.legs c.in_ok-hit.ensures in
    rw (tree, c.count.ensures) at c.leave_out.ensures.answers

pub returns-clause-set : goal.returns-clause-set
returns-clause-set c = rw c.count.ensures at c.leave_out.ensures.set

pub leave_out-requires-clause-few : goal.leave_out-requires-clause-few
leave_out-requires-clause-few c = rw c.count.ensures (node_few c.args.step.now.after)
