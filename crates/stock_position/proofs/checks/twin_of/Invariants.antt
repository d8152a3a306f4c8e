use Rattle.std.proofs.Common.{ℕ, ◌<◌}
use Rattle.chess_game.specs.Unsoundness.{AreTwins}
use Rattle.stock_position.proofs.checks.twin_of.Given as goal

abbrev pub invariant-loop-i : goal.invariant-loop-i
invariant-loop-i l = (k : ℕ) → l.number < k → k < l.i → AreTwins l.p l.number k → ⊥
