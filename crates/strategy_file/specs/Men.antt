-- The fields before the sets of a file: its version, the number of moves, the sides, and the men.
use Rattle.std.specs.Prelude.{ℕ, zero, suc, List, codes, ℤ}
use Rattle.std.specs.Int.{w8, w32, w64, from_be_bytes, cast_signed}
use Rattle.game_rules.specs.Game.{Position}
use Rattle.game_rules.specs.declared.men.Side.{Side}
use Rattle.game_rules.specs.declared.men.Side.TheVariants.{White, Black}
use Rattle.game_rules.specs.declared.men.Kind.{Kind}
use Rattle.game_rules.specs.declared.men.Kind.TheVariants.{King, Queen, Rook, Bishop, Knight, Pawn, Chancellor, Archbishop, Amazon, Nightrider}
use Rattle.game_rules.specs.declared.men.Place.{Place}
use Rattle.game_rules.specs.declared.men.Place.TheVariants.{Gone, At}
use Rattle.game_rules.specs.declared.men.Man.{Man}
use Rattle.strategy_file.specs.declared.refusal.ByteWhy.TheVariants as why
use Rattle.strategy_file.specs.declared.version.Version.{Version}
use Rattle.strategy_file.specs.Versions.{version_of, most_turn, most_men, most_kind}
use Rattle.strategy_file.specs.Layout.{Layout, Give, bind, ◌>>=◌, one, any, between, repeated}

abbrev pub side_of : ℕ → Side
side_of zero = White
side_of (suc n) = Black

-- the side to move and the winner, which share one byte
abbrev pub turn_of : ℕ → Side
turn_of zero = White
turn_of (suc zero) = Black
turn_of (suc (suc zero)) = White
turn_of (suc (suc (suc n))) = Black

abbrev pub winner_of : ℕ → Side
winner_of zero = White
winner_of (suc zero) = White
winner_of (suc (suc n)) = Black

abbrev pub kind_of : ℕ → Kind
kind_of zero = King
kind_of (suc zero) = Queen
kind_of (suc (suc zero)) = Rook
kind_of (suc (suc (suc zero))) = Bishop
kind_of (suc (suc (suc (suc zero)))) = Knight
kind_of (suc (suc (suc (suc (suc zero))))) = Pawn
kind_of (suc (suc (suc (suc (suc (suc zero)))))) = Chancellor
kind_of (suc (suc (suc (suc (suc (suc (suc zero))))))) = Archbishop
kind_of (suc (suc (suc (suc (suc (suc (suc (suc zero)))))))) = Amazon
kind_of (suc (suc (suc (suc (suc (suc (suc (suc (suc n))))))))) = Nightrider

abbrev pub coordinate_layout : Layout ℤ
coordinate_layout = bind (one (any w64)) (λ n. Give (cast_signed w64 n))

unfoldable pub place_layout : ℕ → Layout Place
place_layout zero = Give Gone
place_layout (suc n) = do
  x ← coordinate_layout
  y ← coordinate_layout
  Give (At x y)

abbrev pub man_of : ℕ → ℕ → Place → Man
man_of side kind place = record { side = side_of side; kind = kind_of kind; place = place }

-- a man whose kind has at most this number
unfoldable pub man_layout : ℕ → Layout Man
man_layout most = do
  side ← one (between w8 0 1 why.Side)
  kind ← one (between w8 0 most why.Kind)
  tag ← one (between w8 0 1 why.PlaceTag)
  place ← place_layout tag
  Give (man_of side kind place)

-- the fields before the sets
pub record Start : Type 0 where
  pub version : Version
  pub winner : Side
  pub moves : ℕ
  pub position : Position

abbrev pub start_with : Version → ℕ → ℕ → List Man → Start
start_with version moves turn men = record {
  version = version;
  winner = winner_of turn;
  moves = moves;
  position = record { men = men; turn = turn_of turn };
}

abbrev pub version_layout : Layout Version
version_layout = bind (one (between w8 1 2 why.Version)) (λ n. Give (version_of n))

unfoldable pub start_layout : Layout Start
start_layout = do
  magic ← one (between w32 (from_be_bytes w32 (codes "ICSF")) (from_be_bytes w32 (codes "ICSF")) why.Magic)
  version ← version_layout
  moves ← one (between w8 0 20 why.Moves)
  turn ← one (between w8 0 (most_turn version) why.Turn)
  count ← one (between w8 2 (most_men version) why.Count)
  men ← repeated count (man_layout (most_kind version))
  Give (start_with version moves turn men)
