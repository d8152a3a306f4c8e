use Rattle.std.proofs.Common.{length}
use Rattle.auto_merge.proofs.Trails.{IsTrailIn-keeps}
use Rattle.auto_merge.proofs.walk.put_off.Goals as goal

pub returns-then-branch-clause-way : goal.returns-then-branch-clause-way
returns-then-branch-clause-way g c =
    c.in_ok-turn_to.ensures.way (length (g.R.RowSource.places c.args.rows.now c.args.merging.now.led.seen)) c.requires.new.within c.requires.next c.requires.way

pub returns-then-branch-clause-left : goal.returns-then-branch-clause-left
returns-then-branch-clause-left g c =
    c.in_ok-turn_to.ensures.left (length (g.R.RowSource.places c.args.rows.now c.args.merging.now.led.seen)) _ c.requires.next c.requires.merging.seen.few c.requires.way

pub returns-clause-way : goal.returns-clause-way
returns-clause-way g c =
    IsTrailIn-keeps c.in_ok-assign_new_class.ensures.kept
    (c.in_ok-turn_to.ensures.way (length (g.R.RowSource.places c.args.rows.now c.args.merging.now.led.seen)) c.requires.new.within c.requires.next c.requires.way)

pub returns-clause-left : goal.returns-clause-left
returns-clause-left g c =
    c.in_ok-turn_to.ensures.left (length (g.R.RowSource.places c.args.rows.now c.args.merging.now.led.seen)) _ c.requires.next c.requires.merging.seen.few c.requires.way
