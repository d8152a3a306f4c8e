-- Statements about the positions kept at the plies of the loser.
use Rattle.std.specs.Prelude.{ℕ}
use Rattle.game_rules.specs.Game.{Position, Sound, Value}
use Rattle.game_rules.specs.declared.men.Side.{Side}
use Rattle.mate_plan.specs.Claim.{IsLosersPly}
use Rattle.mate_plan.specs.Won.{IsWonBy}
use Rattle.winning_sets.specs.Kept.{Kept}
use Rattle.winning_sets.specs.OfGame.{AreOfGame}

-- the position is kept, and the ply is one of the loser
pub record KeptByLoser (winner : Side) (p : Position) (moves ply : ℕ) (q : Position) : Type 0 where
  pub losers : IsLosersPly winner p moves ply
  pub kept : Kept winner p moves ply q

-- the positions kept there are sound, and it is the loser's turn
abbrev pub KeptAreOfGame : Type 0
KeptAreOfGame =
    (winner : Side) (p : Position) (moves : ℕ) → Sound p → AreOfGame winner p moves (KeptByLoser winner p moves)

-- if the winner mates in time, the positions kept at the plies of the loser are won
abbrev pub KeptIsWon : Type 0
KeptIsWon =
    (winner : Side) (p : Position) (moves : ℕ) → Sound p → Value winner moves p
    → IsWonBy winner p (KeptByLoser winner p moves)
