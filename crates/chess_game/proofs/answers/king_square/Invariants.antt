use Rattle.std.proofs.Common.{ℕ, ◌<◌, ◌≡◌, get_or}
use Rattle.game_rules.specs.declared.men.Man.{Man}
use Rattle.game_rules.specs.declared.men.Kind.TheVariants.{King}
use Rattle.chess_game.proofs.answers.king_square.Given as goal

abbrev pub invariant-loop-man : goal.invariant-loop-man
invariant-loop-man l = (k : ℕ) (m : Man) → k < l.man-index → ((get_or l.board.men k m).side ≡ l.board.turn) × ((get_or l.board.men k m).kind ≡ King) → ⊥
