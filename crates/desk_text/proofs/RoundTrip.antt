-- The text of a position is read as that position.
use Rattle.std.proofs.Common.{◌≡◌, ◌≢◌, ℕ, ◌+◌, ◌<◌, ◌≤◌, ◌^◌, ◌%◌, suc, Bool, true, false, if◌then◌else◌, ◌==◌, List, [], ◌∷◌, ◌++◌, map, length, codes, ℤ, pos, negsuc, FitsSigned, refl, sym, ◌∙◌, ap, subst, arith, append_assoc, length-append}
use Rattle.std.specs.List.{All}
use Rattle.std.specs.Int.{w64}
use Rattle.std.specs.Fmt.{decimal, signed_decimal}
use Rattle.std.proofs.lemmas.Fmt.{decimal_by_steps, length-decimal-le}
use Rattle.std.proofs.lemmas.Bool.Decides.{nat_tests}
use Rattle.std.proofs.lemmas.List.{append-nil}
use Rattle.std.proofs.lemmas.List.Elements.{All-cons, All-head, All-nil, All-tail}
use Rattle.desk_base.specs.Lines.{Lines, HasNoLf, IsLine, lines_of}
use Rattle.desk_base.proofs.LinesOf.{line_first}
use Rattle.game_rules.specs.Game.{Position}
use Rattle.game_rules.specs.declared.men.Side.{Side}
use Rattle.game_rules.specs.declared.men.Side.TheVariants.{White, Black}
use Rattle.game_rules.specs.declared.men.Kind.{Kind}
use Rattle.game_rules.specs.declared.men.Kind.TheVariants.{King, Queen, Rook, Bishop, Knight, Pawn, Chancellor, Archbishop, Amazon, Nightrider}
use Rattle.game_rules.specs.declared.men.Place.{Place}
use Rattle.game_rules.specs.declared.men.Place.TheVariants.{Gone, At}
use Rattle.game_rules.specs.declared.men.Man.{Man}
use Rattle.chess_text.specs.ManLine.{kind_letter, man_text, place_text, side_letter, turn_text}
use Rattle.chess_text.specs.Draft.{Draft}
use Rattle.chess_text.specs.Grammar.{positions}
use Rattle.chess_text.specs.PositionText.{Completes, FitsPlace, IsWritable, draft_of, end_line, position_lines, position_text, text_of_lines}
use Rattle.chess_text.specs.PositionText as turnouts
use Rattle.chess_text.specs.declared.reader.ReaderState.{ReaderState}
use Rattle.chess_text.specs.declared.reader.ReaderState.TheVariants.{Header}
use Rattle.chess_text.proofs.PositionLemmas.{positions_writable, spelled_is_accepted}
use Rattle.desk_text.specs.TextLaws.{TextIsRead}
use Rattle.desk_text.specs.Text.{Reading, ReadsLines, problems, whole}

-- bytes of which none is LF, at most so many
record IsShort (bytes : List ℕ) (most : ℕ) : Type 0 where
  free : HasNoLf bytes
  short : length bytes ≤ most

-- no byte of a literal text is LF
abbrev all_other : List ℕ → Bool
all_other [] = true
all_other (b ∷ bytes) = if b == 10 then false else all_other bytes

all_free : (bytes : List ℕ) → all_other bytes ≡ true → HasNoLf bytes
all_free [] h = tt
all_free (b ∷ bytes) h =
    let ne : b ≢ 10 = grind (arith, nat_tests) in
    let rest : all_other bytes ≡ true = grind (arith, nat_tests) in (ne, all_free bytes rest)

free_append : (a b : List ℕ) → HasNoLf a → HasNoLf b → HasNoLf (a ++ b)
free_append [] b fa fb = fb
free_append (x ∷ a) b fa fb = (fa.0, free_append a b fa.1 fb)

joined : {a b : List ℕ} {m n : ℕ} → IsShort a m → IsShort b n → IsShort (a ++ b) (m + n)
joined {a} {b} ha hb = record { free = free_append a b ha.free hb.free; short = omega (arith, ha.short, hb.short, length-append a b) }

one_more : (x : ℕ) {a : List ℕ} {m : ℕ} → x ≢ 10 → IsShort a m → IsShort (x ∷ a) (m + 1)
one_more x ne h = record { free = (ne, h.free); short = omega (arith, h.short) }

digit_free : (d : ℕ) → HasNoLf ((48 + d) ∷ [])
digit_free d = (omega arith, tt)

decimal_free : (n : ℕ) → n < 2 ^ 64 → HasNoLf (decimal n)
decimal_free n h =
    decimal_by_steps (λ m ds. HasNoLf ds) (λ m lt. digit_free m) (λ m ds ge before. free_append ds ((48 + m % 10) ∷ []) before (digit_free (m % 10))) n h

decimal_length : (n : ℕ) → n < 2 ^ 64 → length (decimal n) ≤ 20
decimal_length n h = length-decimal-le 20 n (omega arith) (omega (arith, h)) h

decimal_short : (n : ℕ) → n < 2 ^ 64 → IsShort (decimal n) 20
decimal_short n h = record { free = decimal_free n h; short = decimal_length n h }

signed_short : (z : ℤ) → FitsSigned w64 z → IsShort (signed_decimal z) 21
signed_short (pos n) fits = let h = decimal_short n (omega (arith, fits)) in record { free = h.free; short = omega (arith, h.short) }
signed_short (negsuc n) fits = one_more 45 (omega arith) (decimal_short (suc n) (omega (arith, fits)))

place_short : (place : Place) → FitsPlace place → IsShort (place_text place) 43
place_short Gone fits = record { free = all_free (codes "gone") refl; short = omega arith }
place_short (At x y) fits =
    let h = joined (signed_short x fits.0) (one_more 32 (omega arith) (signed_short y fits.1)) in
    record { free = h.free; short = omega (arith, h.short) }

side_free : (s : Side) → side_letter s ≢ 10
side_free White = omega arith
side_free Black = omega arith

kind_free : (k : Kind) → kind_letter k ≢ 10
kind_free King = omega arith
kind_free Queen = omega arith
kind_free Rook = omega arith
kind_free Bishop = omega arith
kind_free Knight = omega arith
kind_free Chancellor = omega arith
kind_free Archbishop = omega arith
kind_free Amazon = omega arith
kind_free Nightrider = omega arith
kind_free Pawn = omega arith

man_line : (m : Man) → FitsPlace m.place → IsLine (man_text m)
man_line m fits =
    let place = place_short m.place fits in
    record { free = (side_free m.side, (omega arith, (kind_free m.kind, (omega arith, place.free)))); short = omega (arith, place.short) }

turn_line : (s w : Side) → IsLine (turn_text s w)
turn_line s White = record { free = free_append (codes "turn ") (side_letter s ∷ []) (all_free (codes "turn ") refl) (side_free s, tt); short = omega arith }
turn_line s Black =
    let named = all_free (codes " for B") refl in
    record { free = free_append (codes "turn ") (side_letter s ∷ codes " for B") (all_free (codes "turn ") refl) (side_free s, named); short = omega arith }

-- lines that are read as a text are read from their bytes, where so many lines stood before them, and there are as many with them
module _ {A : Type 0} (r : Reading A) (d : Draft) (rest : List ℕ) (all : ℕ) where
  read_last : (stage : ReaderState) (number : ℕ) (line more : List ℕ) → IsLine line → more ≡ rest → number ≡ all
      → turnouts.Feeds r.grammar stage line (turnouts.complete d)
      → ReadsLines r stage number (lines_of (line ++ 10 ∷ more)) (whole (r.says d all) (lines_of rest))
  read_last stage number line more is same last feeds =
      let P : Lines → Type 0 = λ l. ReadsLines r stage number l (whole (r.says d all) (lines_of rest)) in
      subst P (sym (line_first line more is.free is.short))
      (turnouts.complete d, feeds, ap (λ b. whole (r.says d all) (lines_of b)) (sym same) ∙ ap (λ k. whole (r.says d k) (lines_of more)) (sym last))

  pub read_lines : (stage : ReaderState) (number : ℕ) (lines : List (List ℕ)) → All IsLine lines → number + length lines ≡ all + 1
      → Completes r.grammar stage lines d
      → ReadsLines r stage number (lines_of (text_of_lines lines ++ rest)) (whole (r.says d all) (lines_of rest))
  read_lines stage number [] are count completes = absurd completes
  read_lines stage number (line ∷ []) are count completes =
      let P : List ℕ → Type 0 = λ b. ReadsLines r stage number (lines_of b) (whole (r.says d all) (lines_of rest)) in
      let same : line ++ 10 ∷ rest ≡ ((line ++ 10 ∷ []) ++ []) ++ rest =
      sym (append_assoc line (10 ∷ []) rest) ∙ ap (λ b. b ++ rest) (sym (append-nil (line ++ 10 ∷ []))) in
      subst P same (read_last stage number line rest (All-head IsLine line [] are) refl (omega (arith, count)) completes)
  read_lines stage number (line ∷ next_line ∷ lines) are count completes =
      let P : Lines → Type 0 = λ l. ReadsLines r stage number l (whole (r.says d all) (lines_of rest)) in
      let Q : List ℕ → Type 0 = λ b. ReadsLines r stage number (lines_of b) (whole (r.says d all) (lines_of rest)) in
      let behind = text_of_lines (next_line ∷ lines) ++ rest in
      let is = All-head IsLine line (next_line ∷ lines) are in
      let same : line ++ 10 ∷ behind ≡ ((line ++ 10 ∷ []) ++ text_of_lines (next_line ∷ lines)) ++ rest =
      sym (append_assoc line (10 ∷ []) behind) ∙ sym (append_assoc (line ++ 10 ∷ []) (text_of_lines (next_line ∷ lines)) rest) in
      let more = read_lines completes.0 (number + 1) (next_line ∷ lines) (All-tail IsLine line (next_line ∷ lines) are) (omega (arith, count)) completes.2 in
      subst Q same (subst P (sym (line_first line behind is.free is.short)) (turnouts.more completes.0, completes.1, more))

-- each line of the text of a position is one
men_lines : (men : List Man) → All (λ m. FitsPlace m.place) men → All IsLine (map man_text men ++ end_line ∷ [])
men_lines [] fit = All-cons IsLine end_line [] (record { free = all_free end_line refl; short = omega arith }) (All-nil IsLine)
men_lines (m ∷ men) fit =
    All-cons IsLine (man_text m) (map man_text men ++ end_line ∷ []) (man_line m (All-head (λ k. FitsPlace k.place) m men fit)) (men_lines men (All-tail (λ k. FitsPlace k.place) m men fit))

all_lines : {p : Position} (winner : Side) → IsWritable p → All IsLine (position_lines p winner)
all_lines {p} winner h =
    let men = men_lines p.men h.fit in
    All-cons IsLine positions.header (turn_text p.turn winner ∷ (map man_text p.men ++ end_line ∷ []))
    (record { free = all_free positions.header refl; short = omega arith })
    (All-cons IsLine (turn_text p.turn winner) (map man_text p.men ++ end_line ∷ []) (turn_line p.turn winner) men)

pub text_is_read : TextIsRead
text_is_read p winner rest h =
    read_lines problems (draft_of p winner) rest (length (position_lines p winner)) Header 1 (position_lines p winner) (all_lines winner h) (omega arith)
    (spelled_is_accepted positions (draft_of p winner) ((positions_writable p winner).1 h))
