use Rattle.std.proofs.Common.{refl, get_or}
use Rattle.auto_reduce.proofs.Orders.{AddsAll-more}
use Rattle.auto_reduce.proofs.order.StateOrder.add_all.Goals as goal

pub loop-state-preserved : goal.loop-state-preserved
loop-state-preserved c = record {
  adds = AddsAll-more c.args.states.now c.loop-state.state-index (get_or c.args.states.now c.loop-state.state-index 0) c.loop-state-test.true
      refl c.loop-state.invariant.adds c.in_ok-add.ensures.adds;
  different = c.add.ensures.different;
}
