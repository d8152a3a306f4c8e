use Rattle.auto_merge.proofs.joining.+first_class.Given as goal

abbrev pub decreases-first_class : goal.decreases-first_class
decreases-first_class l = l.key
