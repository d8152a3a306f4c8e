use Rattle.std.proofs.Common.{take}
use Rattle.auto_merge.specs.Merged.{AreClassFlags}
use Rattle.auto_merge.proofs.class_states.class_flags.Given as goal

abbrev pub invariant-loop-owner : goal.invariant-loop-owner
invariant-loop-owner g l =
    AreClassFlags (g.R.RowSource.graph l.rows).walker (g.R.RowSource.places l.rows l.merging.led.seen) (take l.owner-index l.merging.owners.items) l.flags.items
