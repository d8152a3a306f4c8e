use Rattle.letter_diagram.proofs.diagrams.Diagrams.+merged.Given as goal

abbrev pub decreases-merged : goal.decreases-merged
decreases-merged l = l.a
