use Rattle.std.proofs.Common.{ℕ, ◌<◌}
use Rattle.chess_game.specs.Unsoundness.{StandsAt}
use Rattle.chess_game.proofs.unsoundness.next_at.Given as goal

abbrev pub invariant-loop-i : goal.invariant-loop-i
invariant-loop-i l = (k : ℕ) → l.number < k → k < l.i → StandsAt l.setup k l.square → ⊥
