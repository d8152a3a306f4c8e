-- Men by side and kind, on any squares.
use Rattle.std.specs.Prelude.{◌≡◌, ℕ, zero, suc, List, length, Option, Some, None, slice_get}
use Rattle.game_rules.specs.declared.men.Man.{Man}
use Rattle.game_rules.specs.Game.{Position, man_at}

-- the man of this number in a stock
abbrev pub stock_man : List Man → ℕ → Option Man
stock_man stock zero = None
stock_man stock (suc i) = slice_get stock i

-- the men of the position have the sides and the kinds of the stock, on any squares
pub record HasStock (stock : List Man) (q : Position) : Type 0 where
  pub count : length q.men ≡ length stock
  pub men : (k : ℕ) (m n : Man) → stock_man stock k ≡ Some m → man_at q k ≡ Some n
      → (n.side ≡ m.side) × (n.kind ≡ m.kind)
