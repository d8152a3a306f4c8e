-- The coordinates of the live men of a position.
use Rattle.std.specs.Prelude.{ℕ, zero, suc, List, [], ◌∷◌, ◌++◌, length, ℤ, Option, Some, None}
use Rattle.game_rules.specs.declared.men.Man.{Man}
use Rattle.game_rules.specs.declared.men.Square.{Square}
use Rattle.game_rules.specs.Game.{Position, man_at, square_of}

abbrev pub coordinates_of : Option Square → List ℤ
coordinates_of None = []
coordinates_of (Some z) = z.x ∷ z.y ∷ []

abbrev pub man_coordinates : Option Man → List ℤ
man_coordinates None = []
man_coordinates (Some m) = coordinates_of (square_of m)

-- the coordinates of the live men among the first n
abbrev pub tuple_to : Position → ℕ → List ℤ
tuple_to p zero = []
tuple_to p (suc n) = tuple_to p n ++ man_coordinates (man_at p (suc n))

-- the coordinates of the live men
abbrev pub tuple_of : Position → List ℤ
tuple_of p = tuple_to p (length p.men)
