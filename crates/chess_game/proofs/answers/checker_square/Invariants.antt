use Rattle.std.proofs.Common.{ℕ, ◌<◌, ◌≡◌, get_or}
use Rattle.game_rules.specs.declared.men.Man.{Man}
use Rattle.game_rules.specs.Game.{Bears, other}
use Rattle.chess_game.proofs.answers.checker_square.Given as goal

abbrev pub invariant-loop-man : goal.invariant-loop-man
invariant-loop-man l = (k : ℕ) (m : Man) → k < l.man-index → ((get_or l.board.men k m).side ≡ other l.board.turn) × Bears l.board (get_or l.board.men k m) l.king → ⊥
