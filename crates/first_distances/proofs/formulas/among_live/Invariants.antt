use Rattle.std.proofs.Common.{◌≡◌}
use Rattle.rule_formula.specs.Placed.{is_live}
use Rattle.rule_formula.specs.Seats.{own, vars_to}
use Rattle.first_distances.proofs.formulas.among_live.Given as goal

abbrev pub invariant-loop-n : goal.invariant-loop-n
invariant-loop-n l = l.vars.items ≡ vars_to own (is_live l.mask) l.n
