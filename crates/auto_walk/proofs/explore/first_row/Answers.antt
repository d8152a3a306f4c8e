use Rattle.auto_walk.proofs.WalkLemmas.{MoreThan-from}
use Rattle.auto_walk.proofs.RowLemmas.{AreNumbered-first}
use Rattle.auto_walk.proofs.explore.first_row.Goals as goal
use Rattle.std.proofs.Common.{arith, ◌<◌, length}

pub returns-then-count-states-clause-over : goal.returns-then-count-states-clause-over
returns-then-count-states-clause-over g c = λ over.
    MoreThan-from _ _ (AreNumbered-first _ c.requires c.in_ok-node.ensures.row)
    (let many : c.args.budget < length (g.W.Walk.places c.first_row.new.self) = omega (arith, c.count.ensures, c.if-count-states.true, c.states.ensures.is) in many)

pub returns-clause-numbered : goal.returns-clause-numbered
returns-clause-numbered g c = AreNumbered-first _ c.requires c.in_ok-node.ensures.row
