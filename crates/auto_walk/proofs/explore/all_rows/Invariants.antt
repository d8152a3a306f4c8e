use Rattle.std.proofs.Common.{◌≡◌, ◌-◌, ◌≤◌, length, vec_len}
use Rattle.letter_diagram.specs.Diagram.{Grows}
use Rattle.auto_walk.specs.Rows.{AreNumbered, Extends, AreRows}
use Rattle.auto_walk.proofs.explore.all_rows.Given as goal

abbrev pub invariant-loop-number : goal.invariant-loop-number
invariant-loop-number g l = record {
  walker : g.W.Walk.walker l.walk ≡ g.W.Walk.walker l.initial.walk;
  numbered : AreNumbered (g.W.Walk.walker l.initial.walk) (g.W.Walk.places l.walk);
  room : length (g.W.Walk.places l.walk) ≤ l.budget;
  kept : Extends (g.W.Walk.places l.initial.walk) (g.W.Walk.places l.walk);
  grows : Grows (g.W.Walk.shapes l.initial.walk) (g.W.Walk.shapes l.walk);
  within : l.number ≤ length (g.W.Walk.places l.walk);
  rows : AreRows (g.W.Walk.walker l.initial.walk) (g.W.Walk.shapes l.walk) (g.W.Walk.places l.walk) l.rows.items;
  size : vec_len l.rows ≡ l.number;
}

abbrev pub decreases-loop-number : goal.decreases-loop-number
decreases-loop-number g l = l.budget - l.number
