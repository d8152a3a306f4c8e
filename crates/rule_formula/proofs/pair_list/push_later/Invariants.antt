use Rattle.std.proofs.Common.{◌≡◌, ◌++◌}
use Rattle.rule_formula.specs.Pairs.{later_to}
use Rattle.rule_formula.proofs.pair_list.push_later.Given as goal

abbrev pub invariant-loop-n : goal.invariant-loop-n
invariant-loop-n l = l.pairs.items ≡ l.initial.pairs.items ++ later_to l.mask l.first l.n
