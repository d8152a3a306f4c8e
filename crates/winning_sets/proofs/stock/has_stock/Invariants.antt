use Rattle.winning_sets.proofs.Tuples.{AreAlikeTo}
use Rattle.winning_sets.proofs.stock.has_stock.Given as goal

abbrev pub invariant-loop-n : goal.invariant-loop-n
invariant-loop-n l = AreAlikeTo l.stock l.p l.n
