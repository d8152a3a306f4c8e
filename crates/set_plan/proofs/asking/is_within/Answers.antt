use Rattle.std.proofs.Common.{true, false}
use Rattle.std.proofs.lemmas.Result.{err_from_is_err_and}
use Rattle.lin_formula.specs.SetOf.{SetOf, Table}
use Rattle.set_plan.specs.Program.{Ask, Give, Within}
use Rattle.set_plan.specs.Sets.{lent}
use Rattle.set_plan.specs.Unite as plan
use Rattle.set_plan.proofs.Composition.{Error-bind}
use Rattle.set_plan.proofs.Empties.{set-reached}
use Rattle.set_plan.proofs.Withins.{within-nothing, within-told}
use Rattle.set_plan.proofs.asking.is_within.Goals as goal

pub is_none_or_empty-requires : goal.is_none_or_empty-requires
is_none_or_empty-requires g c = set-reached c.args.tracks.now c.in-Part.set (rw c.in-Part.is at c.in_ok-left.ensures.set)

pub returns-in_err-left : goal.returns-in_err-left
returns-in_err-left g c =
    let p = err_from_is_err_and c.from_residual.result c.from_residual.ensures.1 in
    let error =
    Error-bind (plan.difference_set c.args.tracks.now c.args.part (lent c.args.one) (lent c.args.other))
    (λ (rest : SetOf). Ask (Within (lent c.args.one) (lent c.args.other)) (Give true) (Give false)) c.args.budget c.in_err-left.field-0.0
    c.in_err-left.ensures.answers in
    rw (p.1, p.2) (record { answers = error })

pub returns-in_default : goal.returns-in_default
returns-in_default g c =
    let ends = rw c.in_default.is at c.in_ok-left.ensures.answers in
    rw c.in_default.is (record { answers = within-nothing c.args.tracks.now c.args.part c.args.budget (lent c.args.other) ends })

pub returns-in-Whole : goal.returns-in-Whole
returns-in-Whole g c =
    let ends = rw (c.in-Some.is, c.in-Whole.is) at c.in_ok-left.ensures.answers in
    let on = rw c.in-Some.is at c.requires.one in
    rw c.in-Some.is
    (record {
      answers =
          within-told c.args.tracks.now c.args.part c.args.budget c.in-Some.a.now on c.tracks.ensures.valid.ascending c.args.other
          (Table c.in-Some.a.now) c.is_empty_set.result c.requires.other ends c.is_empty_set.ensures.yes c.is_empty_set.ensures.none;
    })

pub returns-in-Part : goal.returns-in-Part
returns-in-Part g c =
    let ends = rw (c.in-Some.is, c.in-Part.is) at c.in_ok-left.ensures.answers in
    let on = rw c.in-Some.is at c.requires.one in
    rw c.in-Some.is
    (record {
      answers =
          within-told c.args.tracks.now c.args.part c.args.budget c.in-Some.a.now on c.tracks.ensures.valid.ascending c.args.other _
          c.is_none_or_empty.result c.requires.other ends c.is_none_or_empty.ensures.yes c.is_none_or_empty.ensures.none;
    })
