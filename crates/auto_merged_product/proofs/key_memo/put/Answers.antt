use Rattle.auto_merged_product.proofs.KeyMemos.{LearnsSlot-set, LearnsSlot-nothing}
use Rattle.auto_merged_product.proofs.key_memo.put.Goals as goal

pub returns-then-is_free : goal.returns-then-is_free
returns-then-is_free c = rw (← c.loop-step.invariant) (LearnsSlot-set c.loop-step.slots c.place-place.result c.args.new)

pub returns : goal.returns
returns c = rw (← c.loop-step.invariant) (LearnsSlot-nothing c.loop-step.slots c.args.new)
