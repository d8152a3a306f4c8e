use Rattle.std.proofs.lemmas.Result.{err_from_is_err_and}
use Rattle.mask_sets.specs.Stock.{mask_of}
use Rattle.rule_formula.specs.Mean.{mask_tracks}
use Rattle.mask_sets.proofs.Masks.{mask_one}
use Rattle.set_plan.specs.Sets.{made_of}
use Rattle.mate_plan.proofs.LevelLemmas.{on_from_kept}
use Rattle.mate_plan.proofs.StartAnswers.{point_ends, point_error, point_names}
use Rattle.mate_plan.proofs.starting.point_level.Goals as goal

pub returns-in_err-made-clause-answers : goal.returns-in_err-made-clause-answers
returns-in_err-made-clause-answers c =
    let p = err_from_is_err_and c.from_residual.result c.from_residual.ensures.1 in
    rw (p.1, p.2)
    (point_error c.args.bench.now.position.now c.mask-mask.result (mask_one c.mask-mask.ensures)
    c.args.work.now.memo.budget c.in_err-made.field-0.0 c.in_err-made.ensures.answers)

pub returns-clause-answers : goal.returns-clause-answers
returns-clause-answers c =
    point_ends c.args.bench.now.position.now c.mask-mask.result (mask_one c.mask-mask.ensures)
    c.args.work.now.memo.budget c.args.bench.now.sound c.args.bench.now.few (made_of c.in_ok-made.made) c.keep.new.self c.in_ok-name.name
    c.in_ok-level_at.field-0 c.in_ok-made.ensures.answers c.in_ok-name.ensures.ok c.in_ok-level_at.ensures

pub returns-clause-names : goal.returns-clause-names
returns-clause-names c =
    point_names c.args.bench.now.position.now c.mask-mask.result (mask_one c.mask-mask.ensures)
    c.args.work.now.memo.budget c.keep.new.self c.in_ok-name.name c.in_ok-level_at.field-0
    (on_from_kept (mask_tracks c.args.bench.now.position.now (mask_of c.args.bench.now.position.now)) c.keep.new.self c.in_ok-made.made.set
    c.in_ok-name.name c.in_ok-made.ensures.set c.in_ok-name.ensures.ok c.in_ok-name.ensures.within)
    c.in_ok-level_at.ensures
