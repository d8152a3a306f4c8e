use Rattle.std.proofs.Common.{IfOk, OnOk, subst}
use Rattle.auto_walk.specs.Walker.{IsWalked, MoreThan}
use Rattle.auto_shift.proofs.ShiftStates.{walker-same}
use Rattle.auto_shift.proofs.moving.pairs_walked.Goals as goal

pub returns-clause-ok : goal.returns-clause-ok
returns-clause-ok c =
    let made = c.in_ok-pairs.ensures in
    let same = walker-same _ _ _ _ _ _ made.auto made.track made.up in
    subst (λ w. IfOk c.explored.result (IsWalked w)) same c.explored.ensures.ok

pub returns-clause-within : goal.returns-clause-within
returns-clause-within c =
    let made = c.in_ok-pairs.ensures in
    let same = walker-same _ _ _ _ _ _ made.auto made.track made.up in
    subst (λ w. OnOk c.explored.result (MoreThan w c.args.budget → ⊥)) same c.explored.ensures.within

pub returns-clause-over : goal.returns-clause-over
returns-clause-over c =
    let made = c.in_ok-pairs.ensures in
    let same = walker-same _ _ _ _ _ _ made.auto made.track made.up in
    λ over. subst (λ w. MoreThan w c.args.budget) same (c.explored.ensures.over over)
