-- The progress of a parser of stock texts.
use Rattle.std.specs.Prelude.{◌≡◌, ℕ, ◌+◌, ◌≤◌, List, length, Option, Some, None, Result, Ok, Err}
use Rattle.chess_text.specs.declared.reader.LineOutcome.{LineOutcome}
use Rattle.chess_text.specs.declared.reader.LineOutcome.TheVariants as step
use Rattle.stock_text.specs.Stock.{Stock}
use Rattle.stock_text.specs.StockText.{Feeds, IsWritable, more, complete, wrong}
use Rattle.stock_text.specs.declared.man_line.StockWhy.{StockWhy}
use Rattle.stock_text.specs.declared.reader.StockEnd.{StockEnd}
use Rattle.stock_text.specs.declared.reader.StockEnd.TheVariants as end
use Rattle.stock_text.specs.declared.reader.StockError.{StockError}
use Rattle.stock_text.specs.declared.reader.StockState.{StockState}
use Rattle.stock_text.specs.declared.reader.StockState.TheVariants as state
use Rattle.stock_position.specs.declared.live.TheConstants.{MOST_STOCK}

-- the state of the text, and how it ended
pub record Progress : Type 0 where
  pub state : StockState
  pub end : Option StockEnd

-- nothing has been read
abbrev pub begun : Progress
begun = record { state = state.Header; end = None }

-- a text at this state has at most the number of men that a stock may have
abbrev pub HasRoom : StockState → Type 0
HasRoom (state.Men s) = length s.men ≤ MOST_STOCK
HasRoom from = Unit {0}

-- a text at this state has enough men if it is complete
abbrev pub HasEnough : StockState → Type 0
HasEnough (state.Men s) = 2 ≤ length s.men
HasEnough from = ⊥

-- the invariant of a parser
pub record IsProgress (r : Progress) : Type 0 where
  pub room : HasRoom r.state
  pub enough : r.end ≡ Some end.Whole → HasEnough r.state

-- the text is complete and has this stock
pub record IsWhole (r : Progress) (s : Stock) : Type 0 where
  pub whole : r.end ≡ Some end.Whole
  pub says : r.state ≡ state.Men s
  pub low : 2 ≤ length s.men
  pub high : length s.men ≤ MOST_STOCK

-- the number of the next line, counted from 1
abbrev pub line_due : StockState → ℕ
line_due state.Header = 1
line_due state.Winner = 2
line_due (state.Men s) = length s.men + 3

-- the result of a line at a state: the text continues at the next state, or is complete, or the line is refused
abbrev pub IsFed : StockState → List ℕ → Result LineOutcome StockWhy → StockState → Type 0
IsFed from line (Ok step.More) next = Feeds from line (more next)
IsFed from line (Ok step.Whole) (state.Men s) = Feeds from line (complete s)
IsFed from line (Ok step.Whole) next = ⊥
IsFed from line (Err why) next = Feeds from line (wrong why)

-- the end of a text after this result, if it ended
abbrev pub ended : LineOutcome → Option StockEnd
ended step.More = None
ended step.Whole = Some end.Whole

-- the result that a parser at a state returns for a line, and its state afterwards
abbrev pub Reads : StockState → List ℕ → Result LineOutcome StockError → Progress → Type 0
Reads from line (Ok to) r = IsFed from line (Ok to) r.state × (r.end ≡ ended to)
Reads from line (Err error) r =
    IsFed from line (Err error.why) r.state × (error.line ≡ line_due from) × (r.end ≡ Some (end.Refused error))

-- the result that a parser returns after the text ended
abbrev pub answer_of : StockEnd → Result LineOutcome StockError
answer_of end.Whole = Ok step.Whole
answer_of (end.Refused error) = Err error
