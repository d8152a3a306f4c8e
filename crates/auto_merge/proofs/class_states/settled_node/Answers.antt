use Rattle.std.proofs.Common.{arith}
use Rattle.auto_merge.proofs.Mergings.{Keeps-grown, classed_few}
use Rattle.auto_merge.proofs.Trails.{IsTrailIn-keeps}
use Rattle.auto_merge.proofs.class_states.settled_node.Goals as goal

pub returns-in-Ok-clause-way : goal.returns-in-Ok-clause-way
returns-in-Ok-clause-way g c = IsTrailIn-keeps c.in-Ok.ensures.kept c.loop-key.invariant.way

pub class_from-requires-clause-way : goal.class_from-requires-clause-way
class_from-requires-clause-way g c =
    let kept = rw c.in-Err-Unclassed.field-0-is at c.in-Err-Unclassed.ensures.kept in
    IsTrailIn-keeps kept c.loop-key.invariant.way

pub loop-key-smaller : goal.loop-key-smaller
loop-key-smaller g c =
    let refused = rw c.in-Err-Unclassed.field-0-is at c.in-Err-Unclassed.ensures.refused in
    let merging = rw c.in-Err-Unclassed.field-0-is at c.in-Err-Unclassed.ensures.merging in
    let kept = rw c.in-Err-Unclassed.field-0-is at c.in-Err-Unclassed.ensures.kept in
    let after = c.in_ok-class_from-in-Err-Unclassed.ensures in
    let grown = Keeps-grown c.in-Err-Unclassed.number merging after.merging after.kept refused.none after.given in
    let counted = kept.counted in
    let few = classed_few after.merging.seen after.merging.classes in
    omega (arith, grown, counted, few)
