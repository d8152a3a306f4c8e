use Rattle.auto_compact.proofs.compacting.+mark.Given as goal

abbrev pub decreases-mark : goal.decreases-mark
decreases-mark l = l.node
