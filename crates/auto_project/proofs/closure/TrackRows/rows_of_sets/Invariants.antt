use Rattle.std.proofs.Common.{◌≡◌, length}
use Rattle.letter_diagram.specs.Diagram.{Grows}
use Rattle.letter_diagram.specs.Sets.{SetsKept}
use Rattle.auto_project.proofs.Closures.{HasRowsSoFar}
use Rattle.auto_project.proofs.closure.TrackRows.rows_of_sets.Given as goal

abbrev pub invariant-loop-number : goal.invariant-loop-number
invariant-loop-number l = record {
  grows : Grows l.initial.merger.shapes l.merger.shapes;
  kept : SetsKept l.initial.merger.sets l.merger.sets;
  size : length l.table.items ≡ length l.initial.merger.sets;
  so_far : HasRowsSoFar l.merger.shapes l.merger.sets l.self.nodes.items l.number-items l.table.items l.number-index;
}
