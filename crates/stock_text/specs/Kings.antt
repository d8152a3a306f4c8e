-- The kings of a stock.
use Rattle.std.specs.Prelude.{◌≡◌, ℕ, ◌+◌, ◌<◌, ◌≤◌, ◌&&◌, Bool, true, false, List, [], ◌∷◌}
use Rattle.game_rules.specs.Game.{other}
use Rattle.game_rules.specs.declared.men.Kind.{Kind}
use Rattle.game_rules.specs.declared.men.Kind.TheVariants.{King}
use Rattle.game_rules.specs.declared.men.Side.{Side}
use Rattle.game_rules.specs.declared.men.Side.TheVariants.{White, Black}
use Rattle.stock_text.specs.Stock.{Stock}
use Rattle.stock_text.specs.declared.kings.KingFault.{KingFault}
use Rattle.stock_text.specs.declared.kings.KingFault.TheVariants.{NoKing, ManyKings}
use Rattle.stock_text.specs.declared.stock.StockMan.{StockMan}

abbrev pub same_side : Side → Side → Bool
same_side White White = true
same_side White Black = false
same_side Black White = false
same_side Black Black = true

abbrev pub is_king : Kind → Bool
is_king King = true
is_king _ = false

-- the man is a king of the side
abbrev pub is_king_of : Side → StockMan → Bool
is_king_of side m = same_side side m.side && is_king m.kind

abbrev pub one_if : Bool → ℕ
one_if true = 1
one_if false = 0

-- the number of kings of a side
abbrev pub king_count : Side → List StockMan → ℕ
king_count side [] = 0
king_count side (m ∷ men) = one_if (is_king_of side m) + king_count side men

-- the loser has exactly one king, and the winner at most one
pub record HasKings (s : Stock) : Type 0 where
  pub loser : king_count (other s.winner) s.men ≡ 1
  pub winner : king_count s.winner s.men ≤ 1

-- this reason applies, whether or not another one does
abbrev pub IsFault : Stock → KingFault → Type 0
IsFault s (NoKing side) = (side ≡ other s.winner) × (king_count side s.men ≡ 0)
IsFault s (ManyKings side) = 2 ≤ king_count side s.men

-- the rank of a reason in the order
abbrev pub rank : KingFault → ℕ
rank (NoKing side) = 0
rank (ManyKings White) = 1
rank (ManyKings Black) = 2

-- this is the first reason that applies
pub record IsFirstFault (s : Stock) (fault : KingFault) : Type 0 where
  pub holds : IsFault s fault
  pub first : (f : KingFault) → rank f < rank fault → IsFault s f → ⊥
