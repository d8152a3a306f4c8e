use Rattle.mate_plan.proofs.lending.is_lacking.Goals as goal

pub returns-in-Some-clause-none : goal.returns-in-Some-clause-none
returns-in-Some-clause-none c = rw (c.in-Some.is, c.get.ensures) c.is_empty_set.ensures.none
