use Rattle.std.proofs.Common.{take}
use Rattle.mate_plan.specs.Formulas.{HaveTrees, pres_to}
use Rattle.mate_plan.proofs.formulas.pre_options.Given as goal

abbrev pub invariant-loop-option : goal.invariant-loop-option
invariant-loop-option l =
    HaveTrees (pres_to l.bench.position.now l.from l.targets (take l.option-index l.options)) l.formulas
