-- The text of a stock, line by line.
use Rattle.std.specs.Prelude.{◌≡◌, ◌≢◌, ◌⊎◌, ℕ, ◌<◌, ◌≤◌, List, [], ◌∷◌, ◌++◌, length, map, codes}
use Rattle.game_rules.specs.declared.men.Side.{Side}
use Rattle.chess_text.specs.ManLine.{kind_letter, side_letter}
use Rattle.chess_text.specs.PositionText.{end_line, text_of_lines}
use Rattle.stock_text.specs.Stock.{Stock, no_men, with_man}
use Rattle.stock_text.specs.declared.man_line.StockWhy.{StockWhy}
use Rattle.stock_text.specs.declared.man_line.StockWhy.TheVariants as why
use Rattle.stock_text.specs.declared.reader.StockState.{StockState}
use Rattle.stock_text.specs.declared.reader.StockState.TheVariants as state
use Rattle.stock_text.specs.declared.stock.StockMan.{StockMan}
use Rattle.stock_position.specs.declared.live.TheConstants.{MOST_STOCK}

-- the first line
abbrev pub header : List ℕ
header = codes "infinite stock 1"

-- the second line, which names the winner
abbrev pub winner_text : Side → List ℕ
winner_text winner = codes "winner " ++ side_letter winner ∷ []

-- the line of a man: his side and his kind
abbrev pub man_text : StockMan → List ℕ
man_text m = side_letter m.side ∷ 32 ∷ kind_letter m.kind ∷ []

-- the lines of the text of a stock, in order
abbrev pub stock_lines : Stock → List (List ℕ)
stock_lines s = header ∷ winner_text s.winner ∷ (map man_text s.men ++ end_line ∷ [])

-- the text of a stock
abbrev pub stock_text : Stock → List ℕ
stock_text s = text_of_lines (stock_lines s)

-- a stock that has a text
pub record IsWritable (s : Stock) : Type 0 where
  pub low : 2 ≤ length s.men
  pub high : length s.men ≤ MOST_STOCK

-- The result of a line of a text: the text continues at a state, or is complete, or the line is refused.
pub data Turnout : Type 0 where
  more : StockState → Turnout
  complete : Stock → Turnout
  wrong : StockWhy → Turnout

-- the result of a line other than the end, if the text has fewer men than it may have
abbrev pub FeedsMan : Stock → List ℕ → Turnout → Type 0
FeedsMan s line turnout =
    ((m : StockMan) × (line ≡ man_text m) × (turnout ≡ more (state.Men (with_man s m))))
    ⊎ (((m : StockMan) → line ≢ man_text m) × (turnout ≡ wrong why.ManLine))

-- the result of a line that names a man or ends the text
abbrev pub FeedsMen : Stock → List ℕ → Turnout → Type 0
FeedsMen s line turnout =
    ((length s.men < 2) × (line ≡ end_line) × (turnout ≡ wrong why.TooFew))
    ⊎ ((2 ≤ length s.men) × (line ≡ end_line) × (turnout ≡ complete s))
    ⊎ ((length s.men ≡ MOST_STOCK) × (line ≢ end_line) × (turnout ≡ wrong why.TooMany))
    ⊎ ((length s.men < MOST_STOCK) × (line ≢ end_line) × FeedsMan s line turnout)

-- the result of a line at a state of a text
abbrev pub Feeds : StockState → List ℕ → Turnout → Type 0
Feeds state.Header line turnout =
    ((line ≡ header) × (turnout ≡ more state.Winner)) ⊎ ((line ≢ header) × (turnout ≡ wrong why.Header))
Feeds state.Winner line turnout =
    ((winner : Side) × (line ≡ winner_text winner) × (turnout ≡ more (state.Men (no_men winner))))
    ⊎ (((winner : Side) → line ≢ winner_text winner) × (turnout ≡ wrong why.Winner))
Feeds (state.Men s) line turnout = FeedsMen s line turnout

-- the lines complete the text, and the last of them is its end
abbrev pub Completes : StockState → List (List ℕ) → Stock → Type 0
Completes from [] s = ⊥
Completes from (line ∷ []) s = Feeds from line (complete s)
Completes from (line ∷ lines) s = (next : StockState) × Feeds from line (more next) × Completes next lines s
