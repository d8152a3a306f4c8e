-- The places of men after the moves of a path, by the distances of the moves.
use Rattle.std.specs.Prelude.{ℕ, ◌==◌, if◌then◌else◌, List, [], ◌∷◌, length, ℤ, pos, ◌+ℤ◌, ◌*ℤ◌, Option, Some, None}
use Rattle.game_rules.specs.declared.men.Man.{Man}
use Rattle.game_rules.specs.declared.men.Square.{Square}
use Rattle.track_word.specs.Tracks.{Values}
use Rattle.game_laws.specs.Stock.{stock_man}
use Rattle.rule_formula.specs.Trees.{man_square}
use Rattle.line_formula.specs.declared.leg.Leg.{Leg}

-- a square, or the origin if there is none
abbrev pub square_or : Option Square → Square
square_or None = record { x = pos 0; y = pos 0 }
square_or (Some z) = z

-- the first square of man k
abbrev pub home : List Man → ℕ → Square
home men k = square_or (man_square (stock_man men k))

-- how far a step of the leg moves man k to the right, and upwards
abbrev pub step_x : ℕ → Leg → ℤ
step_x k leg = if leg.man == k then leg.ray.dx else pos 0

abbrev pub step_y : ℕ → Leg → ℤ
step_y k leg = if leg.man == k then leg.ray.dy else pos 0

-- the square of man k after the legs, last one first: his first square plus the steps of each of his legs. The distance of the
-- first leg is the value of variable 0, that of the second the value of variable 1, and so on
abbrev pub place : (ℕ → Square) → List Leg → Values → ℕ → Square
place first [] v k = first k
place first (leg ∷ legs) v k = record {
  x = (place first legs v k).x +ℤ (v (length legs) *ℤ step_x k leg);
  y = (place first legs v k).y +ℤ (v (length legs) *ℤ step_y k leg);
}
