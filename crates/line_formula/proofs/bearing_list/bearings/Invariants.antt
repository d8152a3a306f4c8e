use Rattle.std.proofs.Common.{◌≡◌}
use Rattle.rule_formula.specs.Bearings.{bearings_to}
use Rattle.line_formula.proofs.bearing_list.bearings.Given as goal

abbrev pub invariant-loop-n : goal.invariant-loop-n
invariant-loop-n l = l.bearings.items ≡ bearings_to l.men l.force.mask l.force.side l.king l.n
