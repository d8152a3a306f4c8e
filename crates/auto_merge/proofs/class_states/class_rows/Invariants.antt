use Rattle.std.proofs.Common.{◌-◌, ◌≤◌, length}
use Rattle.auto_merge.specs.Merging.{IsMerging, Keeps}
use Rattle.auto_merge.specs.Merged.{AreClassRowsIn}
use Rattle.auto_merge.specs.Walk.{IsTrailIn}
use Rattle.auto_merge.proofs.class_states.class_rows.Given as goal

abbrev pub invariant-loop-nodes : goal.invariant-loop-nodes
invariant-loop-nodes g l = record {
  merging : IsMerging (g.R.RowSource.graph l.rows) (g.R.RowSource.places l.rows) g.R.RowSource.answers l.merging;
  kept : Keeps (g.R.RowSource.places l.rows) l.initial.merging l.merging;
  way : IsTrailIn (g.R.RowSource.places l.rows) l.merging l.way;
  rows : AreClassRowsIn (g.R.RowSource.graph l.rows) (g.R.RowSource.places l.rows) l.merging l.nodes.items;
  size : length l.nodes.items ≤ length l.merging.owners.items;
}

abbrev pub decreases-loop-nodes : goal.decreases-loop-nodes
decreases-loop-nodes g l = (g.R.RowSource.graph l.rows).most - length l.nodes.items
