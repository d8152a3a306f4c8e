use Rattle.std.proofs.Common.{◌≡◌}
use Rattle.rule_formula.specs.Options.{options_to}
use Rattle.line_formula.proofs.choices.list.Given as goal

abbrev pub invariant-loop-n : goal.invariant-loop-n
invariant-loop-n l = l.options.items ≡ options_to l.men l.force.mask l.force.side l.n
