use Rattle.letter_diagram.proofs.carry.+rebuilt.Given as goal

abbrev pub decreases-rebuilt : goal.decreases-rebuilt
decreases-rebuilt g l = l.node
