use Rattle.letter_diagram.proofs.diagrams.Diagrams.+composed.Given as goal

abbrev pub decreases-composed : goal.decreases-composed
decreases-composed l = l.a
