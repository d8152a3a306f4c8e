use Rattle.std.proofs.Common.{ℕ, ◌<◌}
use Rattle.game_laws.specs.Answer.{HasAnswer}
use Rattle.chess_game.proofs.answers.is_unanswered.Given as goal

abbrev pub invariant-loop-number : goal.invariant-loop-number
invariant-loop-number l = (k : ℕ) → k < l.number → HasAnswer l.board l.check.from l.check.king k → ⊥
