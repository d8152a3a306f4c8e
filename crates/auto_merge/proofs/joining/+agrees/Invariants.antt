use Rattle.auto_merge.proofs.joining.+agrees.Given as goal

abbrev pub decreases-agrees : goal.decreases-agrees
decreases-agrees l = l.steps.now
