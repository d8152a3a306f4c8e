use Rattle.std.proofs.Common.{◌≡◌, map, take}
use Rattle.std.specs.List.{flat_map}
use Rattle.lin_formula.specs.TreeOf.{tree_of}
use Rattle.rule_formula.specs.Fits.{masks_of}
use Rattle.mate_plan.specs.Formulas.{images_from, name_of}
use Rattle.mate_plan.proofs.formulas.image_formulas.Given as goal

abbrev pub invariant-loop-mask : goal.invariant-loop-mask
invariant-loop-mask l =
    map tree_of l.formulas.items ≡ flat_map
    (λ m. images_from l.bench.position.now l.stage.side l.stage.mask m (name_of (masks_of l.bench.position.now) l.level m))
    (take l.mask-index l.bench.masks.now)
