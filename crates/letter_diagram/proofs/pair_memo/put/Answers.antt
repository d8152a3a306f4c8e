use Rattle.letter_diagram.proofs.PairMemos.{LearnsPair-set, LearnsPair-nothing}
use Rattle.letter_diagram.proofs.pair_memo.put.Goals as goal

pub returns-then-eq : goal.returns-then-eq
returns-then-eq c = rw (← c.loop-step.invariant) (LearnsPair-set c.loop-step.slots c.place-place.result c.args.new)

pub returns : goal.returns
returns c = rw (← c.loop-step.invariant) (LearnsPair-nothing c.loop-step.slots c.args.new.left c.args.new.right c.args.new.answer)
