use Rattle.std.proofs.Common.{◌≡◌, length}
use Rattle.auto_merged_product.specs.KeyMemo.{AreTakenFrom}
use Rattle.auto_merged_product.proofs.key_memo.KeyMemo.grown.Given as goal

abbrev pub invariant-loop-slot : goal.invariant-loop-slot
invariant-loop-slot l = record { room : length l.grown.items ≡ l.size; only : AreTakenFrom l.slot-items l.grown.items }
