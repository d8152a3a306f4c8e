use Rattle.rule_formula.proofs.mask_list.+has_kings.Given as goal

abbrev pub decreases-has_kings : goal.decreases-has_kings
decreases-has_kings l = l.count
