use Rattle.auto_reduce.proofs.unmet.+unmet_states.Given as goal

abbrev pub decreases-unmet_states : goal.decreases-unmet_states
decreases-unmet_states l = l.node
