use Rattle.std.proofs.Common.{◌≡◌}
use Rattle.rule_formula.specs.Trees.{maybe_tree, point_to}
use Rattle.rule_formula.proofs.point.places.Given as goal

abbrev pub invariant-loop-n : goal.invariant-loop-n
invariant-loop-n l = maybe_tree l.chain ≡ point_to l.p.men l.n
