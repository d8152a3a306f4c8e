use Rattle.rule_formula.specs.Fits.{masks_of}
use Rattle.mate_plan.specs.Plan.{rest_set}
use Rattle.mate_plan.specs.PlanOf.{rules_of}
use Rattle.mate_plan.proofs.LevelLemmas.{at_two, level-grows, names-grow}
use Rattle.mate_plan.proofs.losing.RestingLevelBuilder.name.Goals as goal

pub returns-clause-fits : goal.returns-clause-fits
returns-clause-fits c =
    let p = c.args.bench.now.position.now in
    let it = c.args.self.now in
    let grows = c.rest_name.ensures.later.grows in (
      names-grow p.men c.args.work.now.sets c.rest_name.new.work.sets (masks_of p) it.reach.now grows c.requires.fits.0,
      names-grow p.men c.args.work.now.sets c.rest_name.new.work.sets (masks_of p) it.kept.now grows c.requires.fits.1,
    )

pub returns-clause-same : goal.returns-clause-same
returns-clause-same c =
    let p = c.args.bench.now.position.now in
    let it = c.args.self.now in
    let grows = c.rest_name.ensures.later.grows in
    at_two (rest_set (rules_of p) it.ply) _ _ _ _
    (level-grows p.men c.args.work.now.sets c.rest_name.new.work.sets (masks_of p) it.reach.now grows c.requires.fits.0)
    (level-grows p.men c.args.work.now.sets c.rest_name.new.work.sets (masks_of p) it.kept.now grows c.requires.fits.1)
