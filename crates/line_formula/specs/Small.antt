-- The sizes that fit the numbers of the code.
use Rattle.std.specs.Prelude.{◌≡◌, ◌≤◌, ◌+◌, ◌^◌, ℕ, List, length, unsigned_abs, All, Some}
use Rattle.chess_game.specs.declared.position.TheConstants.{MOST_CROWD}
use Rattle.game_rules.specs.declared.men.Man.{Man}
use Rattle.game_rules.specs.declared.men.Ray.{Ray}
use Rattle.game_rules.specs.declared.men.Square.{Square}
use Rattle.game_rules.specs.Game.{StandsOn}
use Rattle.game_laws.specs.Stock.{stock_man}
use Rattle.line_formula.specs.declared.gap.Gap.{Gap}
use Rattle.line_formula.specs.declared.leg.Leg.{Leg}
use Rattle.line_formula.specs.declared.leg.TheConstants.{MOST_LEGS}

-- a step of at most two squares in one coordinate and one in the other
pub record IsSmallRay (r : Ray) : Type 0 where
  pub right : unsigned_abs r.dx ≤ 2
  pub up : unsigned_abs r.dy ≤ 2
  pub both : unsigned_abs r.dx + unsigned_abs r.dy ≤ 3

-- weights as small as the steps of such a ray
pub record IsSmallGap (g : Gap) : Type 0 where
  pub right : unsigned_abs g.right ≤ 2
  pub up : unsigned_abs g.up ≤ 2
  pub both : unsigned_abs g.right + unsigned_abs g.up ≤ 3

abbrev pub IsSmallLeg : Leg → Type 0
IsSmallLeg leg = IsSmallRay leg.ray

-- coordinates of at most 2^60 in absolute value
pub record IsNearSquare (z : Square) : Type 0 where
  pub x : unsigned_abs z.x ≤ 2 ^ 60
  pub y : unsigned_abs z.y ≤ 2 ^ 60

-- all men are on such squares
abbrev pub AreNear : List Man → Type 0
AreNear men = (k : ℕ) (m : Man) (z : Square) → stock_man men k ≡ Some m → StandsOn m z → IsNearSquare z

-- at most as many men as a crowd has, on near squares, and few legs with small steps
pub record IsScene (men : List Man) (legs : List Leg) : Type 0 where
  pub few_men : length men ≤ MOST_CROWD
  pub near : AreNear men
  pub small : All IsSmallLeg legs
  pub few_legs : length legs ≤ MOST_LEGS

-- two men of the scene
pub record AreTwo (men : List Man) (a b : ℕ) : Type 0 where
  pub first : 1 ≤ a
  pub first_is : a ≤ length men
  pub second : 1 ≤ b
  pub second_is : b ≤ length men
