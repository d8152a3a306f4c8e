use Rattle.std.proofs.Common.{◌≡◌}
use Rattle.lin_formula.specs.TreeOf.{tree_of}
use Rattle.first_distances.proofs.ChainLemmas.{lines_to}
use Rattle.first_distances.proofs.formulas.ray_formula.Given as goal

abbrev pub invariant-loop-k : goal.invariant-loop-k
invariant-loop-k l = tree_of l.chain ≡ lines_to l.p l.his.man l.his.ray l.k
