use Rattle.arith_desk.proofs.reading.+terms_and_bound.Given as goal

abbrev pub decreases-terms_and_bound : goal.decreases-terms_and_bound
decreases-terms_and_bound l = l.due
