use Rattle.std.proofs.Common.{◌≡◌}
use Rattle.auto_merged_product.proofs.key_memo.put.Given as goal

abbrev pub invariant-loop-step : goal.invariant-loop-step
invariant-loop-step l = l.slots ≡ l.fn.slots
