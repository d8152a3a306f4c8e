-- The bytes read of a stock text.
use Rattle.std.specs.Prelude.{◌≡◌, ℕ, ◌+◌, List, ◌++◌, length, Option, IfSome, Result, Ok, Err, IsTrue}
use Rattle.std.specs.Io.KnownBytes.{Consumes}
use Rattle.chess_text.specs.PositionText.{text_of_lines}
use Rattle.desk_base.specs.Lines.{lines_of}
use Rattle.desk_text.specs.Taken.{TakesLines}
use Rattle.stock_text.specs.Stock.{Stock}
use Rattle.desk_stock.specs.StockAt.{IsTextOf, is_end, refused, whole}
use Rattle.desk_stock.specs.declared.text.StockLineWhy.{StockLineWhy}
use Rattle.desk_stock.specs.declared.text.StockLineWhy.TheVariants.{Missing}
use Rattle.desk_stock.specs.declared.text.StockTextEnd.{StockTextEnd}
use Rattle.desk_stock.specs.declared.text.StockTextEnd.TheVariants.{Fault, Refused}

-- these bytes are not a text because they end too early
pub record IsShort (bytes : List ℕ) : Type 0 where
  pub number : ℕ
  pub why : StockLineWhy
  pub text : IsTextOf (lines_of bytes) (refused number why)
  pub short : IsTrue (is_end why)

-- a text that begins with these lines needs another line
abbrev pub IsMissing : (before : List (List ℕ)) → Type 0
IsMissing before = IsTextOf (lines_of (text_of_lines before)) (refused (length before + 1) Missing)

-- The result is right if these lines of an input were read, `pending` was taken after them, and `rest` follows.
abbrev pub ReadsStock : Result Stock StockTextEnd → (lines pending rest : List ℕ) → Type 0
ReadsStock (Ok stock) lines pending rest =
    (more : List ℕ) → IsTextOf (lines_of (lines ++ more)) (whole stock (lines_of more))
ReadsStock (Err Fault) lines pending rest = IsShort (lines ++ pending)
ReadsStock (Err (Refused number why)) lines pending rest =
    IsTextOf (lines_of ((lines ++ pending) ++ rest)) (refused number why)

-- The result is right for a source that was `before` and is `after`.
pub record StockRead (answer : Result Stock StockTextEnd) (pending : List ℕ) (before after : Option (List ℕ)) : Type 0 where
  pub bytes : List ℕ
  pub rest : List ℕ
  pub taken : Consumes before after bytes
  pub left : IfSome after (λ told. told ≡ rest)
  pub takes : TakesLines IsMissing bytes pending
  pub reads : ReadsStock answer (text_of_lines takes.lines) pending rest
