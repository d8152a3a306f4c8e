-- A man whose place is stored as a square.
use Rattle.std.specs.Prelude.{◌≡◌, Option, Some, None, refl}
use Rattle.game_rules.specs.declared.men.Man.{Man}
use Rattle.game_rules.specs.declared.men.Place.{Place}
use Rattle.game_rules.specs.declared.men.Place.TheVariants.{Gone, At}
use Rattle.game_rules.specs.declared.men.Square.{Square}
use Rattle.chess_game.specs.declared.piece.Piece.TheInside.{Inside}
use Rattle.game_rules.specs.Game.{place_square}

abbrev pub place_of : Option Square → Place
place_of None = Gone
place_of (Some z) = At z.x z.y

abbrev pub man_of : Inside → Man
man_of a = record { side = a.side; kind = a.kind; place = place_of a.square }

abbrev pub piece_of : Man → Inside
piece_of m = record { side = m.side; kind = m.kind; square = place_square m.place }

pub square_again : (s : Option Square) → place_square (place_of s) ≡ s
square_again None = refl
square_again (Some z) = refl
