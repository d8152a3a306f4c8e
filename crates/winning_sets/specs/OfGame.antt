-- Sets of positions in which it is the loser's turn.
use Rattle.std.specs.Prelude.{◌≡◌, ℕ}
use Rattle.game_rules.specs.Game.{Position, Sound, other}
use Rattle.game_rules.specs.declared.men.Side.{Side}
use Rattle.mate_plan.specs.Claim.{IsLosersPly}

-- the positions of the plies of the loser are sound, and it is the loser's turn
pub record AreOfGame (winner : Side) (p : Position) (moves : ℕ) (C : ℕ → Position → Type 0) : Type 0 where
  pub plies : (ply : ℕ) (q : Position) → C ply q → IsLosersPly winner p moves ply
  pub turn : (ply : ℕ) (q : Position) → C ply q → q.turn ≡ other winner
  pub sound : (ply : ℕ) (q : Position) → C ply q → Sound q
