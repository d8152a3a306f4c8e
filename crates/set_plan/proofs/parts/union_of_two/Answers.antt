use Rattle.lin_formula.specs.SetOf.{Table}
use Rattle.set_plan.specs.Program.{Give}
use Rattle.set_plan.specs.Unite as plan
use Rattle.set_plan.proofs.Composition.{Ends-bind, Ends-give, Stops-bind}
use Rattle.set_plan.proofs.Makes.{Ends-join, Stops-join}
use Rattle.set_plan.proofs.parts.union_of_two.Goals as goal

pub returns-in-Ok-clause-answers : goal.returns-in-Ok-clause-answers
returns-in-Ok-clause-answers g c =
    let some_second = rw c.in-Some-Some.is-1 at c.if-is_none_or_empty.ensures.none in
    let some_first = rw c.in-Some-Some.is-0 at c.if-is_none_or_empty-2.ensures.none in
    let one = Table c.in-Some-Some.a in
    let other = Table c.in-Some-Some.b in
    rw (c.in-Some-Some.is-0, c.in-Some-Some.is-1)
    (Ends-bind (plan.join c.args.tracks.now c.args.part one (other, 1)) (λ made. Give made.0) c.args.budget (Table c.in-Ok.c, 2) (Table c.in-Ok.c)
    (Ends-join c.args.tracks.now c.args.part c.args.budget one (other, 1) some_second some_first c.in-Ok.ensures.ok c.in-Ok.ensures.within)
    (Ends-give c.args.budget (Table c.in-Ok.c)))

pub returns-in-Err-Over-clause-answers : goal.returns-in-Err-Over-clause-answers
returns-in-Err-Over-clause-answers g c =
    let some_second = rw c.in-Some-Some.is-1 at c.if-is_none_or_empty.ensures.none in
    let some_first = rw c.in-Some-Some.is-0 at c.if-is_none_or_empty-2.ensures.none in
    let over = c.united.ensures.over (cc (c.in-Err-Over.is, c.in-Err-Over.field-0-is)) in
    let one = Table c.in-Some-Some.a in
    let other = Table c.in-Some-Some.b in
    rw (c.in-Some-Some.is-0, c.in-Some-Some.is-1)
    (Stops-bind (plan.join c.args.tracks.now c.args.part one (other, 1)) (λ made. Give made.0) c.args.budget {name = record { part = c.args.part; at = 1 }}
    (Stops-join c.args.tracks.now c.args.part c.args.budget one (other, 1) some_second some_first over))
