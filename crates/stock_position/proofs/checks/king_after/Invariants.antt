use Rattle.std.proofs.Common.{ℕ, ◌<◌}
use Rattle.chess_game.specs.Unsoundness.{IsKingAt}
use Rattle.stock_position.proofs.checks.king_after.Given as goal

abbrev pub invariant-loop-i : goal.invariant-loop-i
invariant-loop-i l = (k : ℕ) → l.number < k → k < l.i → IsKingAt l.p l.side k → ⊥
