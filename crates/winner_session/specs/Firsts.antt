-- The winner's first moves along a ray after which he mates in time.
use Rattle.std.specs.Prelude.{◌≡◌, ◌≢◌, ℕ, ◌-◌, Some}
use Rattle.auto_search.specs.Fews.{HasFew}
use Rattle.auto_search.specs.declared.few.Few.TheVariants.{Zero}
use Rattle.game_rules.specs.Game.{Position, Lost, man_at}
use Rattle.game_rules.specs.Rays.{ray_of}
use Rattle.game_rules.specs.declared.men.Man.{Man}
use Rattle.game_rules.specs.declared.men.Ray.{Ray}
use Rattle.game_rules.specs.declared.men.Side.{Side}
use Rattle.chess_game.specs.declared.way.Frame.{Frame}
use Rattle.move_choice.specs.Along.{IsLeastOrNone, LeadsAnywhere, LeadsInside}
use Rattle.winner_session.specs.declared.first_line.FirstLine.{FirstLine}

-- the distances at which the man's move along the ray of this number is legal and after which the loser, whose turn it
-- is, is mated within n - 1 moves of the winner, whatever he plays
abbrev pub Firsts : Side → ℕ → Position → ℕ → ℕ → ℕ → Type 0
Firsts winner n p man ray distance = LeadsAnywhere (Lost winner (n - 1)) p man ray distance

-- there is no such distance
abbrev pub NoFirsts : Side → ℕ → Position → ℕ → ℕ → Type 0
NoFirsts winner n p man ray = (distance : ℕ) → Firsts winner n p man ray distance → ⊥

-- such distances to a square of the frame
abbrev pub FirstsInside : Frame → Side → ℕ → Position → ℕ → ℕ → ℕ → Type 0
FirstsInside frame winner n p man ray distance = LeadsInside frame (Lost winner (n - 1)) p man ray distance

-- the line has the man, the step of his ray, the number of such distances on the board, at least one, and the least of
-- those to a square of the frame, or that there is none
pub record IsFirstLine (frame : Frame) (winner : Side) (n : ℕ) (p : Position) (man ray : ℕ) (line : FirstLine) : Type
    0 where
  pub him : Man
  pub step : Ray
  pub is_man : man_at p man ≡ Some him
  pub is_ray : ray_of him.kind him.side ray ≡ Some step
  pub man_is : line.man ≡ man
  pub dx_is : line.dx ≡ step.dx
  pub dy_is : line.dy ≡ step.dy
  pub some : line.few ≢ Zero
  pub few : HasFew line.few (Firsts winner n p man ray)
  pub least : IsLeastOrNone (FirstsInside frame winner n p man ray) line.least
