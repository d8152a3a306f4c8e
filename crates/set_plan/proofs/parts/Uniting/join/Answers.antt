use Rattle.set_plan.proofs.Makes.{Ends-join, Stops-join}
use Rattle.set_plan.proofs.parts.Uniting.join.Goals as goal

pub returns-in-Ok-clause-answers : goal.returns-in-Ok-clause-answers
returns-in-Ok-clause-answers g c =
    let some_next = rw c.in-Some-Some.is-1 at c.if-is_none_or_empty.ensures.none in
    let some_s = rw c.in-Some-Some.is-0 at c.if-is_none_or_empty-2.ensures.none in
    rw (c.in-Some-Some.is-0, c.in-Some-Some.is-1)
    (Ends-join c.args.self.now.tracks.now c.args.self.now.part c.args.budget _ _ some_next some_s c.in-Ok.ensures.ok c.in-Ok.ensures.within)

pub returns-in-Err-Over-clause-answers : goal.returns-in-Err-Over-clause-answers
returns-in-Err-Over-clause-answers g c =
    let some_next = rw c.in-Some-Some.is-1 at c.if-is_none_or_empty.ensures.none in
    let some_s = rw c.in-Some-Some.is-0 at c.if-is_none_or_empty-2.ensures.none in
    let over = c.united_reached.ensures.over (cc (c.in-Err-Over.is, c.in-Err-Over.field-0-is)) in
    rw (c.in-Some-Some.is-0, c.in-Some-Some.is-1)
    (Stops-join c.args.self.now.tracks.now c.args.self.now.part c.args.budget _ _ some_next some_s over)
