use Rattle.std.proofs.Common.{◌≡◌, length, rules, ◌∙◌}
use Rattle.letter_diagram.proofs.PairMemos.{refilled}
use Rattle.auto_merged_product.specs.KeyMemo.{AreTakenFrom, LearnsSlot}
use Rattle.auto_merged_product.proofs.KeyMemos.{AreTakenFrom-put, Contains-read}
use Rattle.auto_merged_product.proofs.key_memo.KeyMemo.grown.Goals as goal
use Rattle.auto_merged_product.proofs.key_memo.KeyMemo.grown.Goals.{then-slot, else-slot}

pub loop-slot-preserved : goal.loop-slot-preserved
loop-slot-preserved c = elim c.if-slot.branch [
  | then-slot w ↦
      let lent : length w.put.new.slots ≡ length c.loop-slot.grown.items = search rules in
      let whole : c.loop-slot.grown.len ≡ length c.loop-slot.grown.items = search rules in
      let before : AreTakenFrom c.deref-slot-items.result.now c.loop-slot.grown.items = c.loop-slot.invariant.only in
      let learns : LearnsSlot c.loop-slot.grown.items w.put.new.slots c.slot-item.result = search rules in
      rw (w.grown-is, refilled c.loop-slot.grown.len c.loop-slot.grown.items w.put.new.slots whole lent) (record {
        room = lent ∙ c.loop-slot.invariant.room;
        only = AreTakenFrom-put before learns (Contains-read c.deref-slot-items.result.now c.loop-slot.slot-index c.slot-item.result c.loop-slot-test.true c.slot-item.is);
      })
  | else-slot w ↦ rw w.grown-is c.loop-slot.invariant
]

pub returns-clause-only : goal.returns-clause-only
returns-clause-only c =
    let same : c.deref-slot-items.result.now ≡ c.args.self.now = c.deref-slot-items.ensures.value ∙ c.self.view_is in
    rw same at c.loop-slot.invariant.only
