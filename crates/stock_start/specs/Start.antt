-- The position that stands for a stock.
use Rattle.std.specs.Prelude.{◌≡◌, ◌≢◌, ℕ, ◌≤◌, length, map, Some, pos}
use Rattle.game_rules.specs.Game.{HasKings, HasOneKing, Position, man_at, other}
use Rattle.game_rules.specs.declared.men.Man.{Man}
use Rattle.game_rules.specs.declared.men.Place.TheVariants.{Gone, At}
use Rattle.game_rules.specs.declared.men.Side.{Side}
use Rattle.stock_position.specs.declared.live.TheConstants.{MOST_STOCK}
use Rattle.stock_text.specs.Kings as kings
use Rattle.stock_text.specs.Stock.{Stock}
use Rattle.stock_text.specs.StockText.{IsWritable}
use Rattle.stock_text.specs.declared.stock.StockMan.{StockMan}

-- the man on the square 0 0
abbrev pub placed_man : StockMan → Man
placed_man m = record { side = m.side; kind = m.kind; place = At (pos 0) (pos 0) }

-- the men of the stock in order, all on the square 0 0
abbrev pub start_of : Stock → Side → Position
start_of s turn = record { men = map placed_man s.men; turn = turn }

-- the position has the kings that a table needs, at most five men, and no captured man
pub record StandsForStock (winner : Side) (p : Position) : Type 0 where
  pub few : length p.men ≤ MOST_STOCK
  pub kings : HasKings p
  pub king : HasOneKing p (other winner)
  pub live : (k : ℕ) (m : Man) → man_at p k ≡ Some m → m.place ≢ Gone

-- the position that stands for a stock has its kings, and all of its men are live
abbrev pub StartStands : Type 0
StartStands = (s : Stock) (turn : Side) → IsWritable s → kings.HasKings s → StandsForStock s.winner (start_of s turn)
