-- Stocks of men.
use Rattle.std.specs.Prelude.{List, [], ◌∷◌, ◌++◌}
use Rattle.game_rules.specs.declared.men.Side.{Side}
use Rattle.stock_text.specs.declared.stock.StockMan.{StockMan}

-- a stock: the winner, and the men by side and kind, in order
pub record Stock : Type 0 where
  pub winner : Side
  pub men : List StockMan

-- a stock without men
abbrev pub no_men : Side → Stock
no_men winner = record { winner = winner; men = [] }

-- the stock with one more man
abbrev pub with_man : Stock → StockMan → Stock
with_man s m = record { winner = s.winner; men = s.men ++ m ∷ [] }
