-- Crowds.
use Rattle.std.specs.Prelude.{◌≤◌, List, length}
use Rattle.chess_game.specs.declared.position.TheConstants.{MOST_CROWD}
use Rattle.game_rules.specs.declared.men.Man.{Man}
use Rattle.game_rules.specs.declared.men.Place.{Place}
use Rattle.game_rules.specs.declared.men.Place.TheVariants.{Gone, At}
use Rattle.line_formula.specs.Small.{AreNear, IsNearSquare}

-- two to 32 men, all live ones within 2^60 of 0
pub record IsCrowd (men : List Man) : Type 0 where
  pub least : 2 ≤ length men
  pub most : length men ≤ MOST_CROWD
  pub near : AreNear men

-- a square within 2^60 of 0, or none
abbrev pub IsNearPlace : Place → Type 0
IsNearPlace Gone = Unit {0}
IsNearPlace (At x y) = IsNearSquare (record { x = x; y = y })
