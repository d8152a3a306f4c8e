use Rattle.std.proofs.Common.{◌≡◌, length, rules, ◌∙◌}
use Rattle.letter_diagram.specs.PairMemo.{AnswersOnly, LearnsPair}
use Rattle.letter_diagram.proofs.PairMemos.{AnswersOnly-put, Answers-at, refilled}
use Rattle.letter_diagram.proofs.pair_memo.PairMemo.grown.Goals as goal
use Rattle.letter_diagram.proofs.pair_memo.PairMemo.grown.Goals.{then-ne, else-ne}

pub loop-slot-preserved : goal.loop-slot-preserved
loop-slot-preserved c = elim c.if-ne.branch [
  | then-ne w ↦
      let lent : length w.put.new.slots ≡ length c.loop-slot.grown.items = search rules in
      let whole : c.loop-slot.grown.len ≡ length c.loop-slot.grown.items = search rules in
      let before : AnswersOnly c.deref-slot-items.result.now c.loop-slot.grown.items = c.loop-slot.invariant.only in
      let learns : LearnsPair c.loop-slot.grown.items w.put.new.slots c.slot-item.result.left c.slot-item.result.right c.slot-item.result.answer = search rules in
      rw (w.grown-is, refilled c.loop-slot.grown.len c.loop-slot.grown.items w.put.new.slots whole lent) (record {
        room = lent ∙ c.loop-slot.invariant.room;
        only = AnswersOnly-put before learns (Answers-at c.deref-slot-items.result.now c.loop-slot.slot-index c.slot-item.result c.loop-slot-test.true c.slot-item.is (search rules));
      })
  | else-ne w ↦ rw w.grown-is c.loop-slot.invariant
]

pub returns-clause-only : goal.returns-clause-only
returns-clause-only c =
    let same : c.deref-slot-items.result.now ≡ c.args.self.now = c.deref-slot-items.ensures.value ∙ c.self.view_is in
    rw same at c.loop-slot.invariant.only
