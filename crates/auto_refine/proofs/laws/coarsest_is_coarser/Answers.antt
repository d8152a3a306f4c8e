use Rattle.auto_refine.proofs.Coarser.{coarser}
use Rattle.auto_refine.proofs.laws.coarsest_is_coarser.Goals as goal

pub returns : goal.returns
returns c = coarser
