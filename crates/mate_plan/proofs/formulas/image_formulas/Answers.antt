use Rattle.rule_formula.specs.Fits.{masks_of}
use Rattle.mate_plan.specs.Formulas.{images_from, name_of}
use Rattle.mate_plan.proofs.Taken.{flat-more}
use Rattle.mate_plan.proofs.formulas.image_formulas.Goals as goal

pub loop-mask-preserved : goal.loop-mask-preserved
loop-mask-preserved c =
    let p = c.args.bench.now.position.now in
    let stage = c.args.stage in
    flat-more (λ m s. images_from p stage.side stage.mask m s) (λ m. name_of (masks_of p) c.args.level.now m) c.args.bench.now.masks.now
    c.loop-mask.mask-index _ c.name_in-source.result _ _ c.loop-mask-test.true c.in_ok-push_mask.ensures c.loop-mask.invariant c.name_in-source.ensures
