use Rattle.std.proofs.Common.{◌+◌, ◌*◌}
use Rattle.diagram_product.proofs.sides.TwoSides.+paired.Given as goal

abbrev pub decreases-paired : goal.decreases-paired
decreases-paired g l = 2 * (l.a + l.b) + 1

abbrev pub decreases-paired_sides : goal.decreases-paired_sides
decreases-paired_sides g l = 2 * (l.a + l.b)
