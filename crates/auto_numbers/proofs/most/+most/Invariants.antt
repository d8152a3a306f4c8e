use Rattle.auto_numbers.proofs.most.+most.Given as goal

abbrev pub decreases-most : goal.decreases-most
decreases-most l = l.bits
