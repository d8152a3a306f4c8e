-- The numbers of sides and kinds of men.
use Rattle.std.specs.Prelude.{ℕ}
use Rattle.game_rules.specs.declared.men.Side.{Side}
use Rattle.game_rules.specs.declared.men.Side.TheVariants.{White, Black}
use Rattle.game_rules.specs.declared.men.Kind.{Kind}
use Rattle.game_rules.specs.declared.men.Kind.TheVariants.{King, Queen, Rook, Bishop, Knight, Pawn, Chancellor, Archbishop, Amazon, Nightrider}

abbrev pub side_byte : Side → ℕ
side_byte White = 0
side_byte Black = 1

-- the number of the winner and the side to move
abbrev pub turn_byte : Side → Side → ℕ
turn_byte White White = 0
turn_byte White Black = 1
turn_byte Black White = 2
turn_byte Black Black = 3

abbrev pub kind_byte : Kind → ℕ
kind_byte King = 0
kind_byte Queen = 1
kind_byte Rook = 2
kind_byte Bishop = 3
kind_byte Knight = 4
kind_byte Pawn = 5
kind_byte Chancellor = 6
kind_byte Archbishop = 7
kind_byte Amazon = 8
kind_byte Nightrider = 9
