use Rattle.line_formula.proofs.bearing_list.+king_among.Given as goal

abbrev pub decreases-king_among : goal.decreases-king_among
decreases-king_among l = l.count
