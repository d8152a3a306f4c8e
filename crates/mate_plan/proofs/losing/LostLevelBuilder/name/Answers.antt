use Rattle.rule_formula.specs.Fits.{masks_of}
use Rattle.mate_plan.specs.Plan.{lost_set_if}
use Rattle.mate_plan.specs.PlanOf.{rules_of}
use Rattle.mate_plan.proofs.LevelLemmas.{at_three, level-grows, names-grow}
use Rattle.mate_plan.proofs.losing.LostLevelBuilder.name.Goals as goal

pub returns-clause-fits : goal.returns-clause-fits
returns-clause-fits c =
    let p = c.args.bench.now.position.now in
    let it = c.args.self.now in
    let grows = c.lost_name.ensures.later.grows in (
      names-grow p.men c.args.work.now.sets c.lost_name.new.work.sets (masks_of p) it.reach.now grows c.requires.fits.0,
      names-grow p.men c.args.work.now.sets c.lost_name.new.work.sets (masks_of p) it.next_reach.now grows c.requires.fits.1,
      names-grow p.men c.args.work.now.sets c.lost_name.new.work.sets (masks_of p) it.rests.now grows c.requires.fits.2,
    )

pub returns-clause-same : goal.returns-clause-same
returns-clause-same c =
    let p = c.args.bench.now.position.now in
    let it = c.args.self.now in
    let grows = c.lost_name.ensures.later.grows in
    at_three (lost_set_if (rules_of p) it.side it.ply) _ _ _ _ _ _
    (level-grows p.men c.args.work.now.sets c.lost_name.new.work.sets (masks_of p) it.reach.now grows c.requires.fits.0)
    (level-grows p.men c.args.work.now.sets c.lost_name.new.work.sets (masks_of p) it.next_reach.now grows c.requires.fits.1)
    (level-grows p.men c.args.work.now.sets c.lost_name.new.work.sets (masks_of p) it.rests.now grows c.requires.fits.2)
