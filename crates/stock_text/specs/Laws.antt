-- The laws of stock texts: each stock of two to five men has exactly one text, and no other text is accepted.
use Rattle.std.specs.Prelude.{◌≡◌, ℕ, List}
use Rattle.stock_text.specs.Stock.{Stock}
use Rattle.stock_text.specs.StockText.{Completes, Feeds, IsWritable, Turnout, stock_lines}
use Rattle.stock_text.specs.declared.reader.StockState.{StockState}
use Rattle.stock_text.specs.declared.reader.StockState.TheVariants.{Header}

-- lines that are accepted as a stock text are the spelling of its stock
abbrev pub AcceptedIsSpelled : Type 0
AcceptedIsSpelled = (lines : List (List ℕ)) (s : Stock) → Completes Header lines s → (lines ≡ stock_lines s) × IsWritable s

-- the spelling of any stock of two to five men is accepted as this stock
abbrev pub SpelledIsAccepted : Type 0
SpelledIsAccepted = (s : Stock) → IsWritable s → Completes Header (stock_lines s) s

-- a line of a text has exactly one result
abbrev pub FeedsOnce : Type 0
FeedsOnce = (from : StockState) (line : List ℕ) (one other : Turnout) → Feeds from line one → Feeds from line other → one ≡ other
