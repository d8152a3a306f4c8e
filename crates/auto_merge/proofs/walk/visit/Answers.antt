use Rattle.std.proofs.Common.{arith}
use Rattle.std.proofs.lemmas.Grind.{common_steps}
use Rattle.auto_walk.proofs.RowLemmas.{length-Extends}
use Rattle.auto_merge.proofs.Trails.{IsTrailIn-keeps}
use Rattle.auto_merge.proofs.walk.visit.Goals as goal

pub put_off-requires-clause-new : goal.put_off-requires-clause-new
put_off-requires-clause-new g c =
    let kept = rw c.in-Err-Unclassed.field-0-is at c.in-Err-Unclassed.ensures.kept in
    let none = c.if-class_of-2.true in
    let read = rw c.as_slice-in-Err-Unclassed.ensures.value at c.class_of-in-Err-Unclassed.ensures in
    record { within = length-Extends c.args.number kept.numbers c.requires.within; none = grind (arith, common_steps, none, read) }

pub put_off-requires-clause-way : goal.put_off-requires-clause-way
put_off-requires-clause-way g c =
    let kept = rw c.in-Err-Unclassed.field-0-is at c.in-Err-Unclassed.ensures.kept in
    IsTrailIn-keeps kept c.requires.way

pub returns-in-Ok-clause-way : goal.returns-in-Ok-clause-way
returns-in-Ok-clause-way g c = IsTrailIn-keeps c.in-Ok.ensures.kept c.requires.way

pub returns-else-class_of-2-clause-way : goal.returns-else-class_of-2-clause-way
returns-else-class_of-2-clause-way g c =
    let kept = rw c.in-Err-Unclassed.field-0-is at c.in-Err-Unclassed.ensures.kept in
    IsTrailIn-keeps kept c.requires.way
