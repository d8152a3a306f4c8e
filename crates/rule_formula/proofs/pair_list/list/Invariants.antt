use Rattle.std.proofs.Common.{◌≡◌, length}
use Rattle.rule_formula.specs.Pairs.{pairs_to}
use Rattle.rule_formula.proofs.pair_list.list.Given as goal

abbrev pub invariant-loop-n : goal.invariant-loop-n
invariant-loop-n l = l.pairs.items ≡ pairs_to l.mask (length l.stock.men) l.n
