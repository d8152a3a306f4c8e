use Rattle.auto_predecessors.proofs.ways.+place_of.Given as goal

abbrev pub decreases-place_of : goal.decreases-place_of
decreases-place_of l = l.node
