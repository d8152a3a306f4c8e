-- Positions from which the winner still mates in time.
use Rattle.std.specs.Prelude.{ℕ, ◌-◌, ◌/◌}
use Rattle.game_rules.specs.Game.{Position, Value}
use Rattle.game_rules.specs.declared.men.Side.{Side}
use Rattle.mate_plan.specs.PlanOf.{last_ply}
use Rattle.winning_sets.specs.Reach.{Reach}

-- the number of moves that the winner has left at a ply, given the last ply
abbrev pub moves_left : ℕ → ℕ → ℕ
moves_left last ply = (last - ply) / 2

-- the position is reached at the ply, and the winner mates from it within the moves that he has left
pub record Kept (winner : Side) (p : Position) (moves ply : ℕ) (q : Position) : Type 0 where
  pub reached : Reach p ply q
  pub value : Value winner (moves_left (last_ply winner p.turn moves) ply) q
