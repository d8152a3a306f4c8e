use Rattle.std.proofs.Common.{◌≡◌, length, rules}
use Rattle.letter_diagram.proofs.PairMemos.{refilled}
use Rattle.auto_merged_product.specs.KeyMemo.{AreTakenFrom, LearnsSlot}
use Rattle.auto_merged_product.proofs.KeyMemos.{LearnsSlot-after}
use Rattle.auto_merged_product.proofs.key_memo.KeyMemo.add.Goals as goal
use Rattle.auto_merged_product.proofs.key_memo.KeyMemo.add.Goals.{then-self-len+in_ok-slots, else-self-len}

pub returns : goal.returns
returns c = elim c.if-self-len.branch [
  | then-self-len+in_ok-slots w ↦
      let before = w.in_ok-slots.slots in
      let lent : length c.put-is_new.new.slots ≡ length before.items = search rules in
      let whole : before.len ≡ length before.items = search rules in
      let learns : LearnsSlot before.items c.put-is_new.new.slots c.args.new = search rules in
      let kept : AreTakenFrom c.args.self.now before.items = w.in_ok-slots.ensures.only in
      rw (w.self-inside-is, refilled before.len before.items c.put-is_new.new.slots whole lent) (LearnsSlot-after kept learns)
  | else-self-len w ↦
      let before = c.self.inside.slots in
      let lent : length c.put-is_new.new.slots ≡ length before.items = search rules in
      let whole : before.len ≡ length before.items = search rules in
      let learns : LearnsSlot before.items c.put-is_new.new.slots c.args.new = search rules in
      let now : c.args.self.now ≡ before.items = search rules in
      rw (w.self-inside-is, now, refilled before.len before.items c.put-is_new.new.slots whole lent) learns
]
