use Rattle.std.proofs.Common.{◌≡◌, map, take}
use Rattle.winning_sets.specs.Lent.{sets_or}
use Rattle.winning_sets.proofs.lent.copied.Given as goal

abbrev pub invariant-loop-names : goal.invariant-loop-names
invariant-loop-names l = l.copies.items ≡ map (sets_or l.sets l.others) (take l.names-index l.levels)
