use Rattle.lin_formula.specs.SetOf.{Nothing, Table}
use Rattle.set_plan.proofs.Makes.{Ends-without, Ends-without_all, Stops-without}
use Rattle.set_plan.proofs.left.difference_set.Goals as goal

pub returns-in_default-one-clause-answers : goal.returns-in_default-one-clause-answers
returns-in_default-one-clause-answers g c =
    rw (c.in-Some.is, c.in_default-one.is)
    (Ends-without_all c.args.tracks.now c.args.part c.args.budget Nothing (Table c.in-Some.b.now) c.if-is_empty_set.ensures.none (λ t h. h))

pub returns-then-is_empty_set-2-clause-answers : goal.returns-then-is_empty_set-2-clause-answers
returns-then-is_empty_set-2-clause-answers g c =
    rw (c.in-Some.is, c.in-Some-one.is)
    (Ends-without_all c.args.tracks.now c.args.part c.args.budget (Table c.in-Some-one.a.now) (Table c.in-Some.b.now) c.if-is_empty_set.ensures.none c.if-is_empty_set-2.ensures.yes)

pub returns-in-Ok-clause-answers : goal.returns-in-Ok-clause-answers
returns-in-Ok-clause-answers g c =
    rw (c.in-Some.is, c.in-Some-one.is)
    (Ends-without c.args.tracks.now c.args.part c.args.budget (Table c.in-Some-one.a.now) (Table c.in-Some.b.now) (Table c.in-Ok.c)
    c.if-is_empty_set.ensures.none c.if-is_empty_set-2.ensures.none c.in-Ok.ensures.ok c.in-Ok.ensures.within)

pub returns-in-Err-Over-clause-answers : goal.returns-in-Err-Over-clause-answers
returns-in-Err-Over-clause-answers g c =
    rw (c.in-Some.is, c.in-Some-one.is)
    (Stops-without c.args.tracks.now c.args.part c.args.budget (Table c.in-Some-one.a.now) (Table c.in-Some.b.now) c.if-is_empty_set.ensures.none c.if-is_empty_set-2.ensures.none
    (c.except.ensures.over (cc (c.in-Err-Over.is, c.in-Err-Over.field-0-is))))
