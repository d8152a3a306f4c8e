use Rattle.std.proofs.Common.{◌≡◌, ◌^◌, length}
use Rattle.letter_diagram.specs.Diagram.{Grows}
use Rattle.auto_core.specs.Dense.{AreRowsFrom}
use Rattle.auto_core.proofs.dense.nodes_of_rows.Given as goal

abbrev pub invariant-loop-state : goal.invariant-loop-state
invariant-loop-state l = record {
  count : length l.nodes.items ≡ l.state;
  width : l.width ≡ 2 ^ l.tracks;
  grows : Grows l.fn.diagrams l.diagrams;
  rows : AreRowsFrom l.diagrams (2 ^ l.tracks) l.table l.nodes.items;
}
