use Rattle.std.proofs.Common.{take}
use Rattle.mate_plan.specs.Formulas.{AreAdded, images_to}
use Rattle.mate_plan.proofs.formulas.push_images.Given as goal

abbrev pub invariant-loop-option : goal.invariant-loop-option
invariant-loop-option l =
    AreAdded (images_to l.bench.position.now l.from l.to (take l.option-index l.options)) l.initial.formulas l.formulas
