use Rattle.std.proofs.Common.{◌≡◌, take}
use Rattle.letter_diagram.specs.Diagram.{Grows}
use Rattle.letter_diagram.specs.Sets.{SetsKept}
use Rattle.auto_project.specs.SetMaps.{AreMergedAt}
use Rattle.auto_project.proofs.rows.merged_rows.Given as goal

abbrev pub invariant-loop-node : goal.invariant-loop-node
invariant-loop-node l = record {
  grows : Grows l.initial.merger.shapes l.merger.shapes;
  kept : SetsKept l.initial.merger.sets l.merger.sets;
  track : l.merger.track ≡ l.initial.merger.track;
  merged : AreMergedAt l.merger.track l.merger (take l.node-index l.nodes) l.rows.items;
}
