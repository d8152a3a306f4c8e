use Rattle.std.proofs.Common.{take}
use Rattle.mate_plan.specs.Formulas.{HaveTrees}
use Rattle.mate_plan.specs.Twins.{twins_by}
use Rattle.mate_plan.proofs.apart.twins.Given as goal

abbrev pub invariant-loop-pair : goal.invariant-loop-pair
invariant-loop-pair l = HaveTrees (twins_by l.source.mask l.source.set.0 (take l.pair-index l.pairs)) l.formulas
