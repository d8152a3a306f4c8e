use Rattle.std.proofs.Common.{◌≡◌, ◌++◌}
use Rattle.rule_formula.specs.Options.{captures_to}
use Rattle.line_formula.proofs.choices.push_captures.Given as goal

abbrev pub invariant-loop-n : goal.invariant-loop-n
invariant-loop-n l = l.options.items ≡ l.initial.options.items ++ captures_to l.men l.force.mask l.force.side l.man l.ray l.n
