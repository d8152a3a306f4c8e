use Rattle.std.proofs.Common.{◌≡◌, length}
use Rattle.letter_diagram.specs.PairMemo.{AnswersOnly}
use Rattle.letter_diagram.proofs.pair_memo.PairMemo.grown.Given as goal

abbrev pub invariant-loop-slot : goal.invariant-loop-slot
invariant-loop-slot l = record { room : length l.grown.items ≡ l.size; only : AnswersOnly l.slot-items l.grown.items }
