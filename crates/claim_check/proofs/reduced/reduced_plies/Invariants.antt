use Rattle.claim_check.proofs.Grouped.{AreBare, Grouped}
use Rattle.claim_check.proofs.reduced.reduced_plies.Given as goal

abbrev pub invariant-loop-before : goal.invariant-loop-before
invariant-loop-before l = AreBare l.masks l.plies.items l._before

abbrev pub invariant-loop-done : goal.invariant-loop-done
invariant-loop-done l = Grouped l.fn.sets.items l.masks l.fn.losers.first l.fn.losers.count l._done l.left.items l.plies.items
