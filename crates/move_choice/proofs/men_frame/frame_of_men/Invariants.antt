use Rattle.std.proofs.Common.{ℕ, ◌≤◌}
use Rattle.game_rules.specs.declared.men.Square.{Square}
use Rattle.chess_game.specs.Unsoundness.{StandsAt}
use Rattle.chess_game.specs.Way.{IsInside}
use Rattle.move_choice.proofs.men_frame.frame_of_men.Given as goal

abbrev pub invariant-loop-n : goal.invariant-loop-n
invariant-loop-n l = (i : ℕ) (z : Square) → i ≤ l.n → StandsAt l.p i z → IsInside l.frame z
