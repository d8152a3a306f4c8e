use Rattle.std.proofs.Common.{take}
use Rattle.mate_plan.specs.Formulas.{HaveTrees, bears_by}
use Rattle.mate_plan.proofs.formulas.bears.Given as goal

abbrev pub invariant-loop-b : goal.invariant-loop-b
invariant-loop-b l = HaveTrees (bears_by l.bench.position.now l.source (take l.b-index l.bearings)) l.formulas
