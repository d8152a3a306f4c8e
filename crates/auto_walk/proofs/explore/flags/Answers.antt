use Rattle.std.proofs.Common.{sym}
use Rattle.auto_walk.proofs.WalkLemmas.{map-take_more}
use Rattle.auto_walk.proofs.explore.flags.Goals as goal

pub loop-number-preserved : goal.loop-number-preserved
loop-number-preserved g c =
    let at = c.is_final.ensures in
    rw (c.in_ok-push.ensures.items, c.loop-number.invariant, at.2) (sym (map-take_more _ _ _ at.0 at.1))
