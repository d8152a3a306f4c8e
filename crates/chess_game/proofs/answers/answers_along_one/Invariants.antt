use Rattle.std.proofs.Common.{ℕ, ◌<◌}
use Rattle.chess_game.specs.Check.{AnswersAlongNth}
use Rattle.chess_game.proofs.answers.answers_along_one.Given as goal

abbrev pub invariant-loop-index : goal.invariant-loop-index
invariant-loop-index l =
    (k : ℕ) → k < l.index → AnswersAlongNth l.board l.check l.man l.standing k → ⊥
