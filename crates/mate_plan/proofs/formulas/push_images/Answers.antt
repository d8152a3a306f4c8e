use Rattle.std.proofs.Common.{◌==◌}
use Rattle.rule_formula.specs.Fits.{target_of}
use Rattle.rule_formula.specs.Trees.{image_of}
use Rattle.mate_plan.proofs.Taken.{chosen-more, grown-more}
use Rattle.mate_plan.proofs.formulas.push_images.Goals as goal

pub loop-option-preserved : goal.loop-option-preserved
loop-option-preserved c =
    grown-more _ _ _ _ _ _ c.in_ok-push_image.ensures c.loop-option.invariant
    (chosen-more (λ o. image_of c.args.bench.now.position.now.men c.args.from.mask o c.args.from.set.0) (λ o. target_of c.args.from.mask o == c.args.to)
    c.args.options.now c.loop-option.option-index _ c.loop-option-test.true)
