use Rattle.std.proofs.Common.{◌≡◌, length}
use Rattle.letter_diagram.specs.Diagram.{Grows}
use Rattle.auto_core.specs.Sums.{AreSumRows, RemembersSums}
use Rattle.auto_core.proofs.lin.state_rows.Given as goal

abbrev pub invariant-loop-state : goal.invariant-loop-state
invariant-loop-state l = record {
  count : length l.nodes.items ≡ l.state;
  rows : AreSumRows l.diagrams l.weights l.span l.nodes.items;
  remembered : RemembersSums l.diagrams l.weights l.span l.memo;
  grows : Grows l.fn.diagrams l.diagrams;
}
