use Rattle.std.proofs.Common.{◌≡◌, take}
use Rattle.winning_sets.specs.Lent.{sets_or}
use Rattle.winning_sets.proofs.lent.lent_sets.Given as goal

abbrev pub invariant-loop-k : goal.invariant-loop-k
invariant-loop-k l = l.copies.items ≡ take l.k (sets_or l.sets l.others l.names)
