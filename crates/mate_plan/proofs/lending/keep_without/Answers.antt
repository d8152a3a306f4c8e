use Rattle.std.proofs.Common.{Ok, Err}
use Rattle.std.proofs.lemmas.Result.{err_from_is_err_and}
use Rattle.rule_formula.specs.Mean.{mask_tracks}
use Rattle.set_plan.specs.Sets.{left_of, set_at}
use Rattle.mate_plan.proofs.LostParts.{on-copied}
use Rattle.mate_plan.proofs.Remainders.{lent_answers}
use Rattle.mate_plan.proofs.lending.keep_without.Goals as goal

pub left_without-requires-clause-other : goal.left_without-requires-clause-other
left_without-requires-clause-other c =
    on-copied (mask_tracks c.args.bench.now.position.now c.args.whole.part.mask) c.as_ref.result c.args.other c.as_ref.ensures.value c.requires.other

pub returns-in_err-left-clause-answers : goal.returns-in_err-left-clause-answers
returns-in_err-left-clause-answers c =
    let p = err_from_is_err_and c.from_residual.result c.from_residual.ensures.1 in
    let whole = set_at c.args.work.now.sets c.args.whole.name in
    rw (p.1, p.2)
    (lent_answers (mask_tracks c.args.bench.now.position.now c.args.whole.part.mask) c.args.whole.part whole c.as_ref.result c.args.other c.budget-budget.result c.args.work.now.memo.budget
    c.as_ref.ensures.value c.budget-budget.ensures.is (left_of whole) (Err c.in_err-left.field-0.0) c.in_err-left.ensures.answers)

pub returns-clause-answers : goal.returns-clause-answers
returns-clause-answers c =
    let whole = set_at c.args.work.now.sets c.args.whole.name in
    rw c.in_ok-keep_left.ensures.set
    (lent_answers (mask_tracks c.args.bench.now.position.now c.args.whole.part.mask) c.args.whole.part whole c.as_ref.result c.args.other c.budget-budget.result c.args.work.now.memo.budget
    c.as_ref.ensures.value c.budget-budget.ensures.is (left_of whole) (Ok c.in_ok-left.left) c.in_ok-left.ensures.answers)

pub returns-clause-name : goal.returns-clause-name
returns-clause-name c = c.in_ok-keep_left.ensures.name (mask_tracks c.args.bench.now.position.now c.args.whole.part.mask) c.requires.one c.in_ok-left.ensures.set
