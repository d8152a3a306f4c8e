use Rattle.std.proofs.Common.{rules, ◌≡◌, cond}
use Rattle.auto_refine.proofs.Rounds.{HasOther-from, IsSound-flags}
use Rattle.auto_refine.proofs.partition.by_flags.Goals as goal

pub returns-clause-sound : goal.returns-clause-sound
returns-clause-sound c =
    let classes = c.in_ok-classes.classes.items in
    let other = rw c.as_slice.ensures.value at c.contains-both.ensures.cases in
    let one : c.from.result ≡ cond c.contains-both.result 1 0 = search rules in
    rw one (IsSound-flags c.contains-both.result c.flag_classes.ensures.valid.some_state c.in_ok-classes.ensures.flags (HasOther-from classes c.contains-both.result other))
