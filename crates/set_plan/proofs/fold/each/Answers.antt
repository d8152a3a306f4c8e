use Rattle.std.proofs.Common.{◌≡◌, ◌+◌, ◌<◌, ◌∷◌, length, drop, ◌∙◌}
use Rattle.std.proofs.lemmas.Result.{err_from_is_err_and}
use Rattle.set_plan.proofs.Folds.{each_error, each_more}
use Rattle.set_plan.proofs.Items.{drop_front}
use Rattle.set_plan.proofs.fold.each.Goals as goal

pub returns-in_err-value-clause-answers : goal.returns-in_err-value-clause-answers
returns-in_err-value-clause-answers g c =
    let so_far = c.loop-item.invariant in
    let less : c.loop-item.item-index < length c.args.items.now = c.loop-item-test.true in
    let error = rw (so_far.program, so_far.budget) at c.in_err-value.ensures.answers in
    let p = err_from_is_err_and c.from_residual.result c.from_residual.ensures.1 in
    rw (p.1, p.2) (each_error c.args.items.now _ _ _ c.loop-item.item-index c.item-item.result _ so_far.left less c.item-item.is c.in_err-value.field-0.0 error)

pub loop-item-preserved : goal.loop-item-preserved
loop-item-preserved g c =
    let so_far = c.loop-item.invariant in
    let step = c.in_ok-value.ensures in
    let less : c.loop-item.item-index < length c.args.items.now = c.loop-item-test.true in
    let rest = drop (c.loop-item.item-index + 1) c.args.items.now in
    let front : drop c.loop-item.item-index c.args.items.now ≡ c.item-item.result ∷ rest = drop_front c.args.items.now c.loop-item.item-index c.item-item.result less c.item-item.is in
    let made = rw (so_far.program, so_far.budget) at step.answers in
    record {
      fits = step.fits rest (rw front at so_far.fits);
      program = step.program ∙ so_far.program;
      budget = step.budget ∙ so_far.budget;
      keeps = g.met.S.ProgramFold.keeps_on c.args.steps.now c.args.work.now c.loop-item.work c.step.new.work so_far.keeps step.keeps;
      left = each_more c.args.items.now _ _ _ c.loop-item.item-index c.item-item.result _ so_far.left less c.item-item.is _ made;
    }
