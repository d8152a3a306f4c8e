use Rattle.std.proofs.Common.{◌-◌}
use Rattle.auto_merge.specs.Merging.{classed_count, IsMerging, Keeps}
use Rattle.auto_merge.specs.Walk.{IsTrailIn}
use Rattle.auto_merge.proofs.class_states.settled_node.Given as goal

abbrev pub invariant-loop-key : goal.invariant-loop-key
invariant-loop-key g l = record {
  merging : IsMerging (g.R.RowSource.graph l.rows) (g.R.RowSource.places l.rows) g.R.RowSource.answers l.merging;
  kept : Keeps (g.R.RowSource.places l.rows) l.initial.merging l.merging;
  way : IsTrailIn (g.R.RowSource.places l.rows) l.merging l.way;
}

abbrev pub decreases-loop-key : goal.decreases-loop-key
decreases-loop-key g l = (g.R.RowSource.graph l.rows).most - classed_count l.merging.table.items
