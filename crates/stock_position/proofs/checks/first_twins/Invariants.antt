use Rattle.std.proofs.Common.{ℕ, ◌<◌}
use Rattle.chess_game.specs.Unsoundness.{AreTwins}
use Rattle.stock_position.proofs.checks.first_twins.Given as goal

abbrev pub invariant-loop-i : goal.invariant-loop-i
invariant-loop-i l = (j k : ℕ) → j < l.i → j < k → AreTwins l.p j k → ⊥
