-- Laws of the stock text at the front of an input.
use Rattle.std.specs.Prelude.{List, ℕ, ◌≡◌, ◌++◌}
use Rattle.desk_base.specs.Lines.{Lines, lines_of}
use Rattle.stock_text.specs.Stock.{Stock}
use Rattle.stock_text.specs.StockText.{IsWritable, stock_text}
use Rattle.desk_stock.specs.StockAt.{IsTextOf, StockAt, Text, whole}

-- the text of a stock of two to five men, whatever follows it, is read as this stock
abbrev pub TextIsRead : Type 0
TextIsRead = (s : Stock) (rest : List ℕ) → IsWritable s → StockAt (stock_text s ++ rest) (whole s (lines_of rest))

-- lines are one text
abbrev pub TextIsOne : Type 0
TextIsOne = (lines : Lines) (one other : Text) → IsTextOf lines one → IsTextOf lines other → one ≡ other
