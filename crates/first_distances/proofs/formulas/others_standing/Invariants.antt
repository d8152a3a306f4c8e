use Rattle.std.proofs.Common.{◌≡◌}
use Rattle.lin_formula.specs.TreeOf.{tree_of}
use Rattle.first_distances.specs.RayFormula.{others_standing}
use Rattle.first_distances.proofs.formulas.others_standing.Given as goal

abbrev pub invariant-loop-n : goal.invariant-loop-n
invariant-loop-n l = tree_of l.chain ≡ others_standing l.p l.mask l.man (tree_of l.fn.f) l.n
