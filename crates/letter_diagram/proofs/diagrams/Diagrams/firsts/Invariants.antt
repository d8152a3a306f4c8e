use Rattle.letter_diagram.specs.Least.{IsPass}
use Rattle.letter_diagram.proofs.Passes.{above}
use Rattle.letter_diagram.proofs.diagrams.Diagrams.firsts.Given as goal

abbrev pub invariant-loop-node : goal.invariant-loop-node
invariant-loop-node l = IsPass l.self l.fn.root l.met l.firsts

abbrev pub decreases-loop-node : goal.decreases-loop-node
decreases-loop-node l = above l.met.entries
