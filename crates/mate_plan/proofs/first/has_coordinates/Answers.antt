use Rattle.std.proofs.Common.{length, ap, subst, sym, ◌∙◌}
use Rattle.auto_core.specs.Integers.{IsAccepted}
use Rattle.mate_plan.proofs.FirstMoves.{own_count}
use Rattle.mate_plan.proofs.first.has_coordinates.Goals as goal

pub member-requires-clause-count : goal.member-requires-clause-count
member-requires-clause-count c =
    let on = rw c.in-Some.is at c.requires in
    ap length (c.as_slice.ensures.value ∙ c.coordinates.ensures) ∙ own_count c.args.bench.now.sound ∙ sym (ap length on.decides.tracks_are)

pub member-requires-clause-decides : goal.member-requires-clause-decides
member-requires-clause-decides c =
    let on = rw c.in-Some.is at c.requires in
    on.decides.integers

pub returns-in-Some : goal.returns-in-Some
returns-in-Some c =
    let same = c.as_slice.ensures.value ∙ c.coordinates.ensures in
    rw c.in-Some.is (
      λ is. subst (IsAccepted c.in-Some.a) same (c.member.ensures.member.0 is),
      λ has. c.member.ensures.member.1 (subst (IsAccepted c.in-Some.a) (sym same) has),
    )
