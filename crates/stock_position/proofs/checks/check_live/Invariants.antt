use Rattle.std.proofs.Common.{ℕ, ◌<◌}
use Rattle.chess_game.specs.Unsoundness.{IsGoneAt, IsKingAt}
use Rattle.stock_position.proofs.checks.check_live.Given as goal

abbrev pub invariant-loop-i : goal.invariant-loop-i
invariant-loop-i l = (k : ℕ) → k < l.i → IsKingAt l.p l.side k → IsGoneAt l.p k → ⊥
