use Rattle.set_plan.proofs.empty.is_none_or_empty.Goals as goal

pub returns-in-Some-clause-none : goal.returns-in-Some-clause-none
returns-in-Some-clause-none c = rw c.in-Some.is c.has_no_tuple.ensures.none
