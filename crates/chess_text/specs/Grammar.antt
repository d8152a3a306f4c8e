-- The differences between the kinds of texts: header, greatest number of men, and range of coordinates.
use Rattle.std.specs.Prelude.{◌≡◌, ℕ, ◌≤◌, ◌^◌, List, codes, ℤ, FitsSigned, unsigned_abs}
use Rattle.std.specs.Int.{w64}
use Rattle.std.specs.Fmt.{signed_decimal}
use Rattle.game_rules.specs.declared.men.Place.{Place}
use Rattle.game_rules.specs.declared.men.Place.TheVariants.{Gone, At}
use Rattle.chess_game.specs.declared.position.TheConstants.{MOST_CROWD}
use Rattle.chess_text.specs.declared.grammar.Grammar.{Grammar}
use Rattle.chess_text.specs.declared.grammar.TheConstants.{MOST_MEN}

-- position texts have up to eight men with coordinates of 64 bits
abbrev pub positions : Grammar
positions = record { header = codes "infinite chess 1"; most_men = MOST_MEN; farthest = 2 ^ 63 }

-- crowd texts have up to 32 men with coordinates from -2^60 to 2^60
abbrev pub crowds : Grammar
crowds = record { header = codes "infinite crowd 1"; most_men = MOST_CROWD; farthest = 2 ^ 60 }

-- a number of 64 bits in the range of the text
pub record IsCoordinateOf (g : Grammar) (z : ℤ) : Type 0 where
  pub fits : FitsSigned w64 z
  pub near : unsigned_abs z ≤ g.farthest

-- the text is the only spelling of such a number
pub record IsCoordinate (g : Grammar) (text : List ℕ) : Type 0 where
  pub number : ℤ
  pub taken : IsCoordinateOf g number
  pub spelled : text ≡ signed_decimal number

-- a place in the range of the text
abbrev pub IsPlaceOf : Grammar → Place → Type 0
IsPlaceOf g Gone = Unit {0}
IsPlaceOf g (At x y) = IsCoordinateOf g x × IsCoordinateOf g y
