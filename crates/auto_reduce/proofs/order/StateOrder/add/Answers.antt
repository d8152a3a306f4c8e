use Rattle.auto_reduce.proofs.Orders.{different, AddsAll-insert}
use Rattle.auto_reduce.proofs.order.StateOrder.add.Goals as goal

pub invariant_of-self-2 : goal.invariant_of-self-2
invariant_of-self-2 c = different _ c.in_ok-insert_full.ensures.unique

pub returns-clause-adds : goal.returns-clause-adds
returns-clause-adds c = rw (← c.self.view_is) (AddsAll-insert _ _ _ c.in_ok-insert_full.ensures.keys)

pub returns-clause-different : goal.returns-clause-different
returns-clause-different c = different _ c.in_ok-insert_full.ensures.unique
