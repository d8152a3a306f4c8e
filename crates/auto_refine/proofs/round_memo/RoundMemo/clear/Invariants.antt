use Rattle.std.proofs.Common.{◌≡◌, ◌≢◌, ◌<◌, ℕ, Some, get_or}
use Rattle.letter_diagram.specs.NodeMemo.{answer_of}
use Rattle.auto_refine.proofs.round_memo.RoundMemo.clear.Given as goal

-- while a field is lent, fields are named by place: `.1.0` is `answers`
abbrev pub invariant-loop-node : goal.invariant-loop-node
invariant-loop-node l = record {
  only : (node answer : ℕ) → answer_of l.self-inside.1.0 node ≡ Some answer
      → (answer_of l.initial.self-inside.1.0 node ≡ Some answer) × ((k : ℕ) → k < l.node-index → get_or l.node-items k 0 ≢ node);
}
