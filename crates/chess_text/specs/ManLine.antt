-- The lines of a text that name a man, or the side to move and the winner.
use Rattle.std.specs.Prelude.{◌≡◌, ◌⊎◌, ℕ, List, [], ◌∷◌, ◌++◌, codes}
use Rattle.game_rules.specs.declared.men.Side.{Side}
use Rattle.game_rules.specs.declared.men.Side.TheVariants.{White, Black}
use Rattle.game_rules.specs.declared.men.Kind.{Kind}
use Rattle.game_rules.specs.declared.men.Kind.TheVariants.{King, Queen, Rook, Bishop, Knight, Pawn, Chancellor, Archbishop, Amazon, Nightrider}
use Rattle.game_rules.specs.declared.men.Place.{Place}
use Rattle.game_rules.specs.declared.men.Place.TheVariants.{Gone, At}
use Rattle.game_rules.specs.declared.men.Man.{Man}
use Rattle.chess_text.specs.Fields.{HasTwoFields, HasOtherField, pair_text}
use Rattle.chess_text.specs.Grammar.{IsCoordinate, IsPlaceOf}
use Rattle.chess_text.specs.declared.grammar.Grammar.{Grammar}
use Rattle.chess_text.specs.declared.fields.PairWhy.{PairWhy}
use Rattle.chess_text.specs.declared.fields.PairWhy.TheVariants as pair_why
use Rattle.chess_text.specs.declared.man_line.TextWhy.{TextWhy}
use Rattle.chess_text.specs.declared.man_line.TextWhy.TheVariants as why

-- the symbol of a side
abbrev pub side_letter : Side → ℕ
side_letter White = 87
side_letter Black = 66

-- the symbol of a kind
abbrev pub kind_letter : Kind → ℕ
kind_letter King = 75
kind_letter Queen = 81
kind_letter Rook = 82
kind_letter Bishop = 66
kind_letter Knight = 78
kind_letter Pawn = 80
kind_letter Chancellor = 67
kind_letter Archbishop = 65
kind_letter Amazon = 90
kind_letter Nightrider = 72

abbrev pub place_text : Place → List ℕ
place_text Gone = codes "gone"
place_text (At x y) = pair_text x y

-- the symbols of a side and a kind, followed by the text
abbrev pub behind_letters : Side → Kind → List ℕ → List ℕ
behind_letters s k rest = side_letter s ∷ 32 ∷ kind_letter k ∷ 32 ∷ rest

-- the line of a man
abbrev pub man_text : Man → List ℕ
man_text m = behind_letters m.side m.kind (place_text m.place)

-- the second line: the side to move, and the winner, which is White if none is named
abbrev pub turn_text : Side → Side → List ℕ
turn_text turn White = codes "turn " ++ side_letter turn ∷ []
turn_text turn Black = codes "turn " ++ side_letter turn ∷ codes " for B"

-- the line is that of the man, whose place is in the range of the text
pub record IsManLine (g : Grammar) (line : List ℕ) (man : Man) : Type 0 where
  pub spelled : line ≡ man_text man
  pub fits : IsPlaceOf g man.place

-- the text is that of the place, which is in the range of the text
pub record IsPlaceText (g : Grammar) (text : List ℕ) (place : Place) : Type 0 where
  pub spelled : text ≡ place_text place
  pub fits : IsPlaceOf g place

-- the text has the shape of a place: the word for a captured man, or two fields
abbrev pub HasPlaceShape : List ℕ → Type 0
HasPlaceShape rest = (rest ≡ codes "gone") ⊎ HasTwoFields rest

-- the text has two fields, one of which is not a coordinate of the text
abbrev pub HasPlaceFault : Grammar → List ℕ → Type 0
HasPlaceFault g rest = HasOtherField (IsCoordinate g) rest

-- this is the first reason why the text is not a place
abbrev pub IsPlaceRefusal : Grammar → List ℕ → PairWhy → Type 0
IsPlaceRefusal g rest pair_why.Shape = HasPlaceShape rest → ⊥
IsPlaceRefusal g rest pair_why.Number = HasPlaceFault g rest

-- the line has one of the two shapes of a man line
pub record HasManShape (line : List ℕ) : Type 0 where
  pub side : Side
  pub kind : Kind
  pub rest : List ℕ
  pub letters : line ≡ behind_letters side kind rest
  pub shape : HasPlaceShape rest

-- the line has two fields after the symbols, and one of them is not a coordinate
pub record HasManFault (g : Grammar) (line : List ℕ) : Type 0 where
  pub side : Side
  pub kind : Kind
  pub rest : List ℕ
  pub letters : line ≡ behind_letters side kind rest
  pub no_coordinate : HasPlaceFault g rest

-- this is the first reason why the line does not name a man
abbrev pub IsManRefusal : Grammar → List ℕ → TextWhy → Type 0
IsManRefusal g line why.ManLine = HasManShape line → ⊥
IsManRefusal g line why.Number = HasManFault g line
IsManRefusal g line _ = ⊥
