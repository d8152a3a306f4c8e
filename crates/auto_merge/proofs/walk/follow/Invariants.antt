use Rattle.auto_merge.specs.Merging.{IsMerging, Keeps}
use Rattle.auto_merge.specs.Walk.{IsTrailIn, steps_left_in}
use Rattle.auto_merge.proofs.walk.follow.Given as goal

abbrev pub invariant-loop-number : goal.invariant-loop-number
invariant-loop-number g l = record {
  merging : IsMerging (g.R.RowSource.graph l.rows) (g.R.RowSource.places l.rows) g.R.RowSource.answers l.merging;
  kept : Keeps (g.R.RowSource.places l.rows) l.initial.merging l.merging;
  way : IsTrailIn (g.R.RowSource.places l.rows) l.merging l.way;
}

abbrev pub decreases-loop-number : goal.decreases-loop-number
decreases-loop-number g l = steps_left_in (g.R.RowSource.graph l.rows) l.way
