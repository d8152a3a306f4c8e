use Rattle.auto_reduce.proofs.unmet.+pruned.Given as goal

abbrev pub decreases-pruned : goal.decreases-pruned
decreases-pruned l = l.node
