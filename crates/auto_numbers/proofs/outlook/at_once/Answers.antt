use Rattle.auto_numbers.proofs.MaskLemmas.{AreMasks-push}
use Rattle.auto_numbers.proofs.outlook.at_once.Goals as goal

pub loop-state-preserved : goal.loop-state-preserved
loop-state-preserved c = rw c.in_ok-push.ensures.items (AreMasks-push c.loop-state.invariant c.own_bit.ensures.mask)
