use Rattle.std.proofs.Common.{◌≡◌, ◌<◌, ℕ, get_or}
use Rattle.auto_reduce.proofs.stable.each_keeps.Given as goal

abbrev pub invariant-loop-pair : goal.invariant-loop-pair
invariant-loop-pair l = (number : ℕ) (none : ℕ × ℕ) → number < l.pair-index
    → (get_or l.pairs number none).0 ≡ l.state → (get_or l.pairs number none).1 ≡ l.state
