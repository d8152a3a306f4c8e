use Rattle.std.proofs.Common.{ap, ◌∙◌}
use Rattle.rule_formula.specs.Fits.{masks_of, target_of}
use Rattle.rule_formula.proofs.MeanTheorem.{game_means}
use Rattle.mate_plan.specs.Formulas.{name_of, pre_to}
use Rattle.mate_plan.proofs.Taken.{flat-more}
use Rattle.mate_plan.proofs.UnionAnswers.{game_on}
use Rattle.mate_plan.proofs.formulas.pre_options.Goals as goal

pub target-requires : goal.target-requires
target-requires c low =
    (game_means (game_on c.args.bench.now)).taken c.args.from.mask _
    (c.requires.options c.loop-option.option-index _ c.loop-option-test.true) low

pub loop-option-preserved : goal.loop-option-preserved
loop-option-preserved c =
    let p = c.args.bench.now.position.now in
    let from = c.args.from in
    flat-more (λ o t. pre_to p from o t) (λ o. name_of (masks_of p) c.args.targets.now (target_of from.mask o)) c.args.options.now
    c.loop-option.option-index _ c.name_in-target.result _ _ c.loop-option-test.true c.in_ok-push_pre.ensures c.loop-option.invariant
    (c.name_in-target.ensures ∙ ap (λ m. name_of (masks_of p) c.args.targets.now m) c.target.ensures)
