use Rattle.std.proofs.Common.{◌≡◌, ℕ, ◌<◌, ◌≤◌, get_or}
use Rattle.game_rules.specs.Game.{IsLeftBy}
use Rattle.game_rules.specs.declared.men.Man.{Man}
use Rattle.chess_game.proofs.board.go.Given as goal

abbrev pub invariant-loop-man : goal.invariant-loop-man
invariant-loop-man l =
    record {
      left : (k : ℕ) (d : Man) → k < l.man-index → IsLeftBy l.to (get_or l.fn.men k d) (get_or l.men k d);
      same : (k : ℕ) (d : Man) → l.man-index ≤ k → get_or l.men k d ≡ get_or l.fn.men k d;
    }
