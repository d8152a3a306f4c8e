use Rattle.std.proofs.Common.{◌+◌, length, arith}
use Rattle.std.proofs.lemmas.Result.{err_from_is_err_and}
use Rattle.lin_formula.specs.SetOf.{Table, as_set}
use Rattle.lin_formula.specs.TreeOf.{tree_of}
use Rattle.set_plan.specs.Unite.{join, make}
use Rattle.set_plan.proofs.Composition.{Error-bind}
use Rattle.line_plan.specs.Plan.{distances, narrowed}
use Rattle.line_engine.specs.Answers.{as_plan_error, made_at}
use Rattle.line_engine.proofs.AnswerLemmas.{answers_later}
use Rattle.line_engine.proofs.EachLemmas.{room_more}
use Rattle.line_engine.proofs.StepLemmas.{bears_at, bears_tree, node_bears, node_few}
use Rattle.line_engine.proofs.parts.with_bearing.Goals as goal

pub bear-requires : goal.bear-requires
bear-requires c = record { two = rw c.scene.ensures.men c.requires.two }

pub narrowed-requires-clause-set : goal.narrowed-requires-clause-set
narrowed-requires-clause-set c = rw c.count-count.ensures c.requires.set

pub narrowed-requires-clause-part : goal.narrowed-requires-clause-part
narrowed-requires-clause-part c =
    let node = c.args.node.now in
    let tree = bears_tree node c.args.bearing c.scene.result.men.now c.scene.result.legs.now (tree_of c.in_ok-bears.bears) c.scene.ensures.men c.scene.ensures.legs c.in_ok-bears.ensures in
    (length node.path.now, rw (tree, c.count-count.ensures) (node_bears node c.args.bearing).0)

pub join-requires-clause-next : goal.join-requires-clause-next
join-requires-clause-next c =
    let node = c.args.node.now in
    let tree = bears_tree node c.args.bearing c.scene.result.men.now c.scene.result.legs.now (tree_of c.in_ok-bears.bears) c.scene.ensures.men c.scene.ensures.legs c.in_ok-bears.ensures in
    rw c.count-count.ensures (c.in_ok-next.ensures.set (length node.path.now) (rw (tree, c.count-count.ensures) (node_bears node c.args.bearing).0))

pub join-requires-clause-so_far : goal.join-requires-clause-so_far
join-requires-clause-so_far c = rw c.count-count.ensures c.requires.so_far

pub returns-in_err-next-clause-answers : goal.returns-in_err-next-clause-answers
returns-in_err-next-clause-answers c a is =
    let node = c.args.node.now in
    let n = length node.path.now in
    let tree = bears_tree node c.args.bearing c.scene.result.men.now c.scene.result.legs.now (tree_of c.in_ok-bears.bears) c.scene.ensures.men c.scene.ensures.legs c.in_ok-bears.ensures in
    let error = rw (tree, c.count-count.ensures) at (c.in_err-next.ensures.answers a is) in
    let e = err_from_is_err_and c.from_residual-in_err-next.result c.from_residual-in_err-next.ensures.1 in
    rw (e.1, e.2)
    (Error-bind (make tt c.args.work.now.at (narrowed n (bears_at node c.args.bearing) (Table a))) (join (distances n) tt (as_set c.args.so_far))
    c.args.work.now.memo.budget (as_plan_error c.in_err-next.field-0.0) error)

pub returns-clause-answers : goal.returns-clause-answers
returns-clause-answers c a is =
    let node = c.args.node.now in
    let n = length node.path.now in
    let tree = bears_tree node c.args.bearing c.scene.result.men.now c.scene.result.legs.now (tree_of c.in_ok-bears.bears) c.scene.ensures.men c.scene.ensures.legs c.in_ok-bears.ensures in
    let made = rw (tree, c.count-count.ensures) at (c.in_ok-next.ensures.answers a is) in
    let joined = rw (c.count-count.ensures, c.in_ok-next.ensures.budget) at c.join.ensures.answers in
    answers_later (make tt c.args.work.now.at (narrowed n (bears_at node c.args.bearing) (Table a))) (join (distances n) tt (as_set c.args.so_far))
    c.args.work.now.memo.budget (made_at c.join.new.work.at) (made_at c.narrowed.new.work.at c.in_ok-next.next) made c.join.result joined

pub returns-clause-set : goal.returns-clause-set
returns-clause-set c = rw c.count-count.ensures at c.join.ensures.set

pub narrowed-requires-clause-few : goal.narrowed-requires-clause-few
narrowed-requires-clause-few c = rw c.count-count.ensures (node_few c.args.node.now)

pub join-requires-clause-few : goal.join-requires-clause-few
join-requires-clause-few c = rw c.count-count.ensures (node_few c.args.node.now)

pub returns-clause-room : goal.returns-clause-room
returns-clause-room c =
    let made = c.in_ok-next.ensures.room in
    room_more c.join.result c.join.new.work.at (c.narrowed.new.work.at + 1000) (c.args.work.now.at + 2000) c.join.ensures.room (omega (arith, made))
