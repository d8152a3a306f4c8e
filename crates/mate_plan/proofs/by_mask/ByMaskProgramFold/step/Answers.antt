use Rattle.std.proofs.Common.{ap}
use Rattle.std.proofs.lemmas.Result.{err_from_is_err_and}
use Rattle.mate_plan.specs.Levels.{level_in}
use Rattle.mate_plan.specs.Plan.{with_mask}
use Rattle.mate_plan.proofs.Loops.{mask_here, so_far_more, with_mask_ends, with_mask_error}
use Rattle.mate_plan.proofs.by_mask.ByMaskProgramFold.step.Goals as goal

pub name-requires-clause-mask : goal.name-requires-clause-mask
name-requires-clause-mask g c =
    let (rest, (so_far, fits)) = c.requires.fits in
    mask_here c.args.self.now.bench.now.position.now c.args.mask.now rest so_far

pub returns-in_err-name-clause-answers : goal.returns-in_err-name-clause-answers
returns-in_err-name-clause-answers g c =
    let p = err_from_is_err_and c.from_residual.result c.from_residual.ensures.1 in
    let position = c.args.self.now.bench.now.position.now in
    rw (p.1, p.2)
    (with_mask_error (g.M.LevelBuilder.program c.args.self.now.making.now position c.args.work.now.sets) c.args.mask.now c.args.work.now.memo.budget
    (level_in position c.args.work.now.sets c.args.so_far) c.in_err-name.field-0.0 c.in_err-name.ensures.answers)

pub returns-clause-answers : goal.returns-clause-answers
returns-clause-answers g c =
    let (rest, (so_far, fits)) = c.requires.fits in
    let position = c.args.self.now.bench.now.position.now in
    let made = c.in_ok-name.ensures in
    rw c.in_ok-push.ensures.ok
    (with_mask_ends position c.args.work.now.sets c.name.new.work.sets c.args.so_far c.args.mask.now rest so_far made.later.grows c.in_ok-name.name
    (g.M.LevelBuilder.program c.args.self.now.making.now position c.args.work.now.sets) c.args.work.now.memo.budget made.answers)

pub returns-clause-fits : goal.returns-clause-fits
returns-clause-fits g c = λ rest (so_far, fits).
    let position = c.args.self.now.bench.now.position.now in
    let made = c.in_ok-name.ensures in (
      rw c.in_ok-push.ensures.ok
          (so_far_more position c.args.work.now.sets c.name.new.work.sets c.args.so_far c.args.mask.now rest so_far made.later.grows c.in_ok-name.name made.name),
      made.fits,
    )

pub returns-in_err-name-clause-program : goal.returns-in_err-name-clause-program
returns-in_err-name-clause-program g c = ap with_mask c.in_err-name.ensures.same

pub returns-in_err-push-clause-program : goal.returns-in_err-push-clause-program
returns-in_err-push-clause-program g c = ap with_mask c.in_ok-name.ensures.same

pub returns-clause-program : goal.returns-clause-program
returns-clause-program g c = ap with_mask c.in_ok-name.ensures.same
