use Rattle.std.proofs.Common.{◌∙◌}
use Rattle.std.proofs.lemmas.Result.{err_from_is_err_and}
use Rattle.lin_formula.specs.TreeOf.{tree_of}
use Rattle.set_plan.specs.Sets.{item_of, made_of}
use Rattle.set_plan.specs.Unite as plan
use Rattle.set_plan.proofs.Composition.{Error-later}
use Rattle.set_plan.proofs.Makes.{Ends-with_item}
use Rattle.set_plan.proofs.parts.Uniting.with_item.Goals as goal

pub returns-in_err-made-clause-answers : goal.returns-in_err-made-clause-answers
returns-in_err-made-clause-answers g c =
    let it = c.args.self.now in
    let so_far = made_of c.args.so_far in
    let error = rw (c.budget-budget.ensures.is ∙ c.in_ok-next.ensures.budget) at c.in_err-made.ensures.answers in
    let p = err_from_is_err_and c.from_residual-in_err-made.result c.from_residual-in_err-made.ensures.1 in
    rw (p.1, p.2)
    (Error-later {m = plan.make it.part so_far.1 (item_of c.args.meets.now.sets (tree_of c.args.f.now))} (plan.join it.tracks.now it.part so_far.0)
    c.args.memo.now.budget (made_of c.in_ok-next.next) c.in_ok-next.ensures.answers c.in_err-made.field-0.0 error)

pub returns-clause-answers : goal.returns-clause-answers
returns-clause-answers g c =
    let it = c.args.self.now in
    let joined = rw (c.budget-budget.ensures.is ∙ c.in_ok-next.ensures.budget) at c.in_ok-made.ensures.answers in
    Ends-with_item it.tracks.now it.part c.args.memo.now.budget (made_of c.args.so_far) (item_of c.args.meets.now.sets (tree_of c.args.f.now))
    (made_of c.in_ok-next.next) (made_of c.in_ok-made.made) c.in_ok-next.ensures.answers joined
