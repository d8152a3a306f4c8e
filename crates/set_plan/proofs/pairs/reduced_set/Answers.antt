use Rattle.set_plan.proofs.Reductions.{reduction}
use Rattle.set_plan.proofs.pairs.reduced_set.Goals as goal

pub returns : goal.returns
returns c = reduction c.args.a.now c.in_ok-r.r c.in_ok-r.ensures.tracks c.in_ok-r.ensures.words c.in_ok-r.ensures.reduced c.in_ok-r.ensures.fewer
