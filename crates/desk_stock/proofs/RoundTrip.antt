-- The text of a stock is read as this stock, and lines are one text.
use Rattle.std.proofs.Common.{◌≡◌, ◌≢◌, ℕ, ◌+◌, Bool, true, false, if◌then◌else◌, ◌==◌, List, [], ◌∷◌, ◌++◌, map, refl, sym, ◌∙◌, ap, subst, arith, append_assoc}
use Rattle.std.specs.List.{All}
use Rattle.std.proofs.lemmas.Bool.Decides.{nat_tests}
use Rattle.std.proofs.lemmas.List.{append-nil}
use Rattle.std.proofs.lemmas.List.Elements.{All-cons, All-head, All-nil, All-tail}
use Rattle.desk_base.specs.Lines.{Lines, HasNoLf, IsLine, full, ended, cut, long, lines_of}
use Rattle.desk_base.proofs.LinesOf.{line_first}
use Rattle.game_rules.specs.declared.men.Side.{Side}
use Rattle.game_rules.specs.declared.men.Side.TheVariants.{White, Black}
use Rattle.game_rules.specs.declared.men.Kind.{Kind}
use Rattle.game_rules.specs.declared.men.Kind.TheVariants.{King, Queen, Rook, Bishop, Knight, Pawn, Chancellor, Archbishop, Amazon, Nightrider}
use Rattle.chess_text.specs.ManLine.{kind_letter, side_letter}
use Rattle.chess_text.specs.PositionText.{end_line, text_of_lines}
use Rattle.stock_text.specs.Stock.{Stock}
use Rattle.stock_text.specs.StockText.{Completes, Feeds, Turnout, header, man_text, stock_lines, winner_text}
use Rattle.stock_text.specs.StockText as turnouts
use Rattle.stock_text.specs.declared.reader.StockState.{StockState}
use Rattle.stock_text.specs.declared.reader.StockState.TheVariants.{Header}
use Rattle.stock_text.specs.declared.stock.StockMan.{StockMan}
use Rattle.stock_text.proofs.StockLemmas.{feeds_once, spelled_is_accepted}
use Rattle.desk_stock.specs.StockAt.{AfterLine, ReadsLines, Text, whole}
use Rattle.desk_stock.specs.StockLaws.{TextIsOne, TextIsRead}

once_after : (turnout : Turnout) (number : ℕ) (rest : Lines) (one other : Text) (F G : StockState → Type 0)
    → ((next : StockState) → F next → G next → one ≡ other) → AfterLine turnout number rest one F → AfterLine turnout number rest other G → one ≡ other
once_after (turnouts.more next) number rest one other F G once a b = once next a b
once_after (turnouts.complete s) number rest one other F G once a b = a ∙ sym b
once_after (turnouts.wrong why) number rest one other F G once a b = a ∙ sym b

once_text : (state : StockState) (number : ℕ) (lines : Lines) (one other : Text) → ReadsLines state number lines one → ReadsLines state number lines other
    → one ≡ other
once_text state number (full line rest) one other a b =
    let F : StockState → Type 0 = λ next. ReadsLines next (number + 1) rest one in
    let G : StockState → Type 0 = λ next. ReadsLines next (number + 1) rest other in
    let P : Turnout → Type 0 = λ t. AfterLine t number rest other G in
    once_after a.0 number rest one other F G (λ next x y. once_text next (number + 1) rest one other x y) a.2
    (subst P (sym (feeds_once state line a.0 b.0 a.1 b.1)) b.2)
once_text state number ended one other a b = a ∙ sym b
once_text state number (cut front) one other a b = a ∙ sym b
once_text state number long one other a b = a ∙ sym b

pub text_is_one : TextIsOne
text_is_one lines one other a b = once_text Header 1 lines one other a b

-- no byte of a literal text is LF
abbrev all_other : List ℕ → Bool
all_other [] = true
all_other (b ∷ bytes) = if b == 10 then false else all_other bytes

all_free : (bytes : List ℕ) → all_other bytes ≡ true → HasNoLf bytes
all_free [] h = tt
all_free (b ∷ bytes) h =
    let ne : b ≢ 10 = grind (arith, nat_tests) in
    let rest : all_other bytes ≡ true = grind (arith, nat_tests) in (ne, all_free bytes rest)

side_free : (s : Side) → side_letter s ≢ 10
side_free White = omega arith
side_free Black = omega arith

kind_free : (k : Kind) → kind_letter k ≢ 10
kind_free King = omega arith
kind_free Queen = omega arith
kind_free Rook = omega arith
kind_free Bishop = omega arith
kind_free Knight = omega arith
kind_free Chancellor = omega arith
kind_free Archbishop = omega arith
kind_free Amazon = omega arith
kind_free Nightrider = omega arith
kind_free Pawn = omega arith

man_line : (m : StockMan) → IsLine (man_text m)
man_line m = record { free = (side_free m.side, (omega arith, (kind_free m.kind, tt))); short = omega arith }

winner_line : (s : Side) → IsLine (winner_text s)
winner_line White = record { free = all_free (winner_text White) refl; short = omega arith }
winner_line Black = record { free = all_free (winner_text Black) refl; short = omega arith }

-- lines that are accepted as a text are read from their bytes
module _ (s : Stock) (rest : List ℕ) where
  read_last : (state : StockState) (number : ℕ) (line : List ℕ) → IsLine line → Feeds state line (turnouts.complete s)
      → ReadsLines state number (lines_of (line ++ 10 ∷ rest)) (whole s (lines_of rest))
  read_last state number line is feeds =
      let P : Lines → Type 0 = λ l. ReadsLines state number l (whole s (lines_of rest)) in
      subst P (sym (line_first line rest is.free is.short)) (turnouts.complete s, feeds, refl)

  read_lines : (state : StockState) (number : ℕ) (lines : List (List ℕ)) → All IsLine lines → Completes state lines s
      → ReadsLines state number (lines_of (text_of_lines lines ++ rest)) (whole s (lines_of rest))
  read_lines state number [] are completes = absurd completes
  read_lines state number (line ∷ []) are completes =
      let P : List ℕ → Type 0 = λ b. ReadsLines state number (lines_of b) (whole s (lines_of rest)) in
      let same : line ++ 10 ∷ rest ≡ ((line ++ 10 ∷ []) ++ []) ++ rest =
      sym (append_assoc line (10 ∷ []) rest) ∙ ap (λ b. b ++ rest) (sym (append-nil (line ++ 10 ∷ []))) in
      subst P same (read_last state number line (All-head IsLine line [] are) completes)
  read_lines state number (line ∷ next_line ∷ lines) are completes =
      let P : Lines → Type 0 = λ l. ReadsLines state number l (whole s (lines_of rest)) in
      let Q : List ℕ → Type 0 = λ b. ReadsLines state number (lines_of b) (whole s (lines_of rest)) in
      let tail = text_of_lines (next_line ∷ lines) ++ rest in
      let is = All-head IsLine line (next_line ∷ lines) are in
      let same : line ++ 10 ∷ tail ≡ ((line ++ 10 ∷ []) ++ text_of_lines (next_line ∷ lines)) ++ rest =
      sym (append_assoc line (10 ∷ []) tail) ∙ sym (append_assoc (line ++ 10 ∷ []) (text_of_lines (next_line ∷ lines)) rest) in
      let more = read_lines completes.0 (number + 1) (next_line ∷ lines) (All-tail IsLine line (next_line ∷ lines) are) completes.2 in
      subst Q same (subst P (sym (line_first line tail is.free is.short)) (turnouts.more completes.0, completes.1, more))

-- the lines of a stock text are lines
men_lines : (men : List StockMan) → All IsLine (map man_text men ++ end_line ∷ [])
men_lines [] = All-cons IsLine end_line [] (record { free = all_free end_line refl; short = omega arith }) (All-nil IsLine)
men_lines (m ∷ men) = All-cons IsLine (man_text m) (map man_text men ++ end_line ∷ []) (man_line m) (men_lines men)

all_lines : (s : Stock) → All IsLine (stock_lines s)
all_lines s =
    All-cons IsLine header (winner_text s.winner ∷ (map man_text s.men ++ end_line ∷ [])) (record { free = all_free header refl; short = omega arith })
    (All-cons IsLine (winner_text s.winner) (map man_text s.men ++ end_line ∷ []) (winner_line s.winner) (men_lines s.men))

pub text_is_read : TextIsRead
text_is_read s rest h = read_lines s rest Header 1 (stock_lines s) (all_lines s) (spelled_is_accepted s h)
