use Rattle.letter_diagram.specs.Diagram.{Grows}
use Rattle.letter_diagram.specs.Sets.{SetsKept}
use Rattle.auto_project.proofs.Closures.{IsClosing}
use Rattle.auto_project.proofs.closure.TrackRows.closed.Given as goal

abbrev pub invariant-loop-round : goal.invariant-loop-round
invariant-loop-round l = record {
  grows : Grows l.fn.merger.shapes l.merger.shapes;
  kept : SetsKept l.fn.merger.sets l.merger.sets;
  closing : IsClosing l.merger.shapes l.merger.sets l.self.automaton.now l.self.tracks.items l.self.nodes.items l.node l.round;
}
