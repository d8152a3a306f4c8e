-- The stock text at the front of an input, line by line.
use Rattle.std.specs.Prelude.{◌≡◌, ℕ, ◌+◌, ◌++◌, Bool, true, false, List, codes}
use Rattle.std.specs.Fmt.{decimal}
use Rattle.desk_base.specs.Lines.{Lines, full, ended, cut, long, lines_of}
use Rattle.stock_text.specs.Stock.{Stock}
use Rattle.stock_text.specs.StockText.{Feeds, Turnout}
use Rattle.stock_text.specs.StockText as turnouts
use Rattle.stock_text.specs.declared.man_line.StockWhy.TheVariants as grammar
use Rattle.stock_text.specs.declared.reader.StockState.{StockState}
use Rattle.stock_text.specs.declared.reader.StockState.TheVariants.{Header}
use Rattle.desk_stock.specs.declared.text.StockLineWhy.{StockLineWhy}
use Rattle.desk_stock.specs.declared.text.StockLineWhy.TheVariants.{Grammar, Long, Cut, Missing}

-- The front of an input: the text of a stock and the lines after it, or the first line that is refused.
pub data Text : Type 0 where
  whole : Stock → Lines → Text
  refused : ℕ → StockLineWhy → Text

-- the text, after a line of this number with this result
abbrev pub AfterLine : Turnout → ℕ → Lines → Text → (StockState → Type 0) → Type 0
AfterLine (turnouts.more next) number rest text go_on = go_on next
AfterLine (turnouts.complete s) number rest text go_on = text ≡ whole s rest
AfterLine (turnouts.wrong why) number rest text go_on = text ≡ refused number (Grammar why)

-- the text in the lines from a state on, the first of which has this number
abbrev pub ReadsLines : StockState → ℕ → Lines → Text → Type 0
ReadsLines state number (full line rest) text =
    (turnout : Turnout) × Feeds state line turnout
    × AfterLine turnout number rest text (λ next. ReadsLines next (number + 1) rest text)
ReadsLines state number ended text = text ≡ refused number Missing
ReadsLines state number (cut front) text = text ≡ refused number Cut
ReadsLines state number long text = text ≡ refused number Long

-- the text in these lines, from the first line on
abbrev pub IsTextOf : Lines → Text → Type 0
IsTextOf lines text = ReadsLines Header 1 lines text

-- the stock text at the front of an input
abbrev pub StockAt : List ℕ → Text → Type 0
StockAt bytes text = IsTextOf (lines_of bytes) text

-- the line is refused because the input ended
abbrev pub is_end : StockLineWhy → Bool
is_end (Grammar why) = false
is_end Long = false
is_end Cut = true
is_end Missing = true

-- the last word of the fault line
abbrev pub why_word : StockLineWhy → List ℕ
why_word (Grammar grammar.Header) = codes "header"
why_word (Grammar grammar.Winner) = codes "winner"
why_word (Grammar grammar.ManLine) = codes "man"
why_word (Grammar grammar.TooFew) = codes "few"
why_word (Grammar grammar.TooMany) = codes "many"
why_word Long = codes "long"
why_word Cut = codes "cut"
why_word Missing = codes "missing"

-- the fault line of a refused line
abbrev pub refusal_line : ℕ → StockLineWhy → List ℕ
refusal_line number why = codes "text line " ++ decimal number ++ codes " " ++ why_word why ++ codes "\n"
