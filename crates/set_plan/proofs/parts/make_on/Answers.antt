use Rattle.lin_formula.specs.SetOf.{tables}
use Rattle.lin_formula.specs.TreeOf.{tree_of}
use Rattle.formula_auto.proofs.Rooms.{ready}
use Rattle.set_plan.specs.Sets.{item_of}
use Rattle.set_plan.proofs.Decided.{IsSetOf-decides}
use Rattle.set_plan.proofs.Makes.{Ends-make, not_made, step-of}
use Rattle.set_plan.proofs.parts.make_on.Goals as goal

pub lacks_a_set-requires : goal.lacks_a_set-requires
lacks_a_set-requires g c = rw c.sets.ensures (ready c.requires.item.compilable)

pub returns-in-Ok-clause-answers : goal.returns-in-Ok-clause-answers
returns-in-Ok-clause-answers g c =
    let none = rw c.sets.ensures at c.if-lacks_a_set.ensures.none in
    let is = IsSetOf-decides (tree_of c.args.f.now) (tables c.args.meets.now.sets) c.in-Ok.a c.in-Ok.ensures.decides in
    rw c.step_count-count.ensures
    (Ends-make c.args.from.part c.args.from.at (item_of c.args.meets.now.sets (tree_of c.args.f.now)) c.args.memo.now.budget none is c.in-Ok.ensures.within)

pub stopped-requires-clause-step : goal.stopped-requires-clause-step
stopped-requires-clause-step g c =
    step-of c.args.from.part c.args.from.at (item_of c.args.meets.now.sets (tree_of c.args.f.now)) c.args.memo.now.budget c.in-Err.why c.requires.item.few c.in-Err.ensures.over

pub returns-in-Err-clause-answers : goal.returns-in-Err-clause-answers
returns-in-Err-clause-answers g c =
    let none = rw c.sets.ensures at c.if-lacks_a_set.ensures.none in
    rw c.stopped.ensures
    (not_made c.args.from.part c.args.from.at (item_of c.args.meets.now.sets (tree_of c.args.f.now)) c.args.memo.now.budget c.in-Err.why none c.in-Err.ensures.over)
