use Rattle.auto_search.proofs.Openings.{opened-steps}
use Rattle.auto_search.proofs.count.opened.Goals as goal

pub returns-clause-opened : goal.returns-clause-opened
returns-clause-opened c =
    let course = c.args.course.now in
    opened-steps course.suits c.start-front.result c.step-front.result c.step-front-2.result c.step.result
    c.start-front.ensures.start c.step-front.ensures.step c.step-front-2.ensures.step c.step.ensures.step
