use Rattle.std.proofs.Common.{◌≡◌, length, rules}
use Rattle.letter_diagram.specs.PairMemo.{AnswersOnly, LearnsPair}
use Rattle.letter_diagram.proofs.PairMemos.{LearnsPair-after, refilled}
use Rattle.letter_diagram.proofs.pair_memo.PairMemo.insert.Goals as goal
use Rattle.letter_diagram.proofs.pair_memo.PairMemo.insert.Goals.{then-self-len+in_ok-slots, else-self-len}

pub returns : goal.returns
returns c = elim c.if-self-len.branch [
  | then-self-len+in_ok-slots w ↦
      let before = w.in_ok-slots.slots in
      let lent : length c.put.new.slots ≡ length before.items = search rules in
      let whole : before.len ≡ length before.items = search rules in
      let learns : LearnsPair before.items c.put.new.slots c.args.left c.args.right c.args.answer = search rules in
      let kept : AnswersOnly c.args.self.now before.items = w.in_ok-slots.ensures.only in
      rw (w.self-inside-is, refilled before.len before.items c.put.new.slots whole lent) (LearnsPair-after kept learns)
  | else-self-len w ↦
      let before = c.self.inside.slots in
      let lent : length c.put.new.slots ≡ length before.items = search rules in
      let whole : before.len ≡ length before.items = search rules in
      let learns : LearnsPair before.items c.put.new.slots c.args.left c.args.right c.args.answer = search rules in
      let now : c.args.self.now ≡ before.items = search rules in
      rw (w.self-inside-is, now, refilled before.len before.items c.put.new.slots whole lent) learns
]
