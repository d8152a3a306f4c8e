use Rattle.std.proofs.Common.{ap}
use Rattle.rule_formula.specs.Fits.{masks_of}
use Rattle.mate_plan.specs.Plan.{reach_set}
use Rattle.mate_plan.specs.PlanOf.{rules_of}
use Rattle.mate_plan.proofs.LevelLemmas.{level-grows, names-grow}
use Rattle.mate_plan.proofs.reaching.ReachedLevelLevelBuilder.name.Goals as goal

pub returns-clause-fits : goal.returns-clause-fits
returns-clause-fits c =
    let p = c.args.bench.now.position.now in
    names-grow p.men c.args.work.now.sets c.reach_name.new.work.sets (masks_of p) c.args.self.now.level.now c.reach_name.ensures.later.grows c.requires.fits

pub returns-clause-same : goal.returns-clause-same
returns-clause-same c =
    let p = c.args.bench.now.position.now in
    let it = c.args.self.now in
    ap (reach_set (rules_of p) it.side it.ply) (level-grows p.men c.args.work.now.sets c.reach_name.new.work.sets (masks_of p) it.level.now c.reach_name.ensures.later.grows c.requires.fits)
