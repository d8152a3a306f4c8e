-- How the men of a stock are stored.
use Rattle.std.specs.Prelude.{◌≡◌, ◌≤◌, length}
use Rattle.stock_position.specs.declared.live.TheConstants.{MOST_STOCK}
use Rattle.stock_text.specs.declared.stock.Stock.TheInside.{Inside}

-- the number of men stored is at most the capacity
pub record IsTidy (a : Inside) : Type 0 where
  pub count : a.count ≤ MOST_STOCK
  pub full : length a.men ≡ MOST_STOCK
