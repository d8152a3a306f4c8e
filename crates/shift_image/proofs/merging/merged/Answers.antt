use Rattle.formula_auto.proofs.Accessible.{accessible-merged}
use Rattle.formula_auto.proofs.BothOk.{both_ok}
use Rattle.shift_image.proofs.merging.merged.Goals as goal

pub returns-clause-same : goal.returns-clause-same
returns-clause-same c = both_ok c.merge.result _ _ _ (λ made tracks words. record { tracks = tracks; words = words }) c.merge.ensures.tracks c.merge.ensures.words

pub returns-clause-accessible : goal.returns-clause-accessible
returns-clause-accessible c = accessible-merged c.merge.result c.args.a.now c.merge.ensures.reached c.merge.ensures.fewer
