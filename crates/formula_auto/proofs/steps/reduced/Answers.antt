use Rattle.formula_auto.proofs.BothOk.{both_ok}
use Rattle.formula_auto.proofs.steps.reduced.Goals as goal

pub returns-clause-same : goal.returns-clause-same
returns-clause-same c = both_ok c.reduce.result _ _ _ (λ made tracks words. record { tracks = tracks; words = words }) c.reduce.ensures.tracks c.reduce.ensures.words
