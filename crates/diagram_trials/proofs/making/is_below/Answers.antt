use Rattle.std.proofs.Common.{◌<◌, subst, All}
use Rattle.diagram_trials.proofs.Leaves.{leaves_below}
use Rattle.diagram_trials.proofs.making.is_below.Goals as goal

pub returns : goal.returns
returns c = λ below. leaves_below _ c.in_ok-values.ensures (subst (All (λ v. v < c.args.bound)) c.as_slice.ensures.value (c.are_below-below.ensures below))
