-- A text that is read whole is so whatever comes behind it.
use Rattle.std.proofs.Common.{◌≡◌, ℕ, ◌+◌, Bool, true, false, List, [], ◌∷◌, ◌++◌, length, if◌then◌else◌, ◌==◌, ap}
use Rattle.std.specs.Prelude.{nat_lt}
use Rattle.desk_base.specs.Lines.{Lines, full, long, lines_from, lines_of}
use Rattle.chess_text.specs.PositionText.{Turnout}
use Rattle.chess_text.specs.PositionText as turnouts
use Rattle.chess_text.specs.declared.reader.ReaderState.{ReaderState}
use Rattle.chess_text.specs.declared.reader.ReaderState.TheVariants.{Header}
use Rattle.desk_text.specs.Text.{AfterLine, IsTextOf, Reading, ReadsLines, Text, whole, refused}
use Rattle.desk_text.specs.declared.text.LineWhy.{LineWhy}

module _ {A : Type 0} (r : Reading A) (said : A) (rest : Lines) where
  -- some bytes are behind the text, and with more of them it is read as that text with all of them behind it
  pub record IsBefore (Reads : (more : List ℕ) → Text A → Type 0) : Type 0 where
    pub behind : List ℕ
    pub rest_is : rest ≡ lines_of behind
    pub reads : (more : List ℕ) → Reads more (whole said (lines_of (behind ++ more)))

  not_refused : {B : Type 0} (number : ℕ) (why : LineWhy) → whole said rest ≡ refused number why → B
  not_refused number why e = absurd (cc)

  abbrev Now : ReaderState → ℕ → Lines → Type 0
  Now stage number lines = ReadsLines r stage number lines (whole said rest)

  after_line : (turnout : Turnout) (number : ℕ) (bytes : List ℕ)
      → ((next : ReaderState) → Now next (number + 1) (lines_of bytes) → IsBefore (λ more text. ReadsLines r next (number + 1) (lines_of (bytes ++ more)) text))
      → AfterLine r turnout number (lines_of bytes) (whole said rest) (λ next. Now next (number + 1) (lines_of bytes))
      → IsBefore (λ more text. AfterLine r turnout number (lines_of (bytes ++ more)) text (λ next. ReadsLines r next (number + 1) (lines_of (bytes ++ more)) text))
  after_line (turnouts.more next) number bytes go h = go next h
  after_line (turnouts.complete d) number bytes go h =
      let same : said ≡ r.says d number = cc in
      let lines : rest ≡ lines_of bytes = cc in
      record { behind = bytes; rest_is = lines; reads = λ more. ap (λ q. whole q (lines_of (bytes ++ more))) same }
  after_line (turnouts.wrong why) number bytes go h = not_refused number _ h

  line_more : (stage : ReaderState) (number : ℕ) (front : List ℕ) (b : ℕ) (bytes : List ℕ) (lf room : Bool)
      → ((next : ReaderState) (k : ℕ) → Now next k (lines_of bytes) → IsBefore (λ more text. ReadsLines r next k (lines_of (bytes ++ more)) text))
      → (Now stage number (lines_from (front ++ b ∷ []) bytes) → IsBefore (λ more text. ReadsLines r stage number (lines_from (front ++ b ∷ []) (bytes ++ more)) text))
      → Now stage number (if lf then full front (lines_from [] bytes) else (if room then lines_from (front ++ b ∷ []) bytes else long))
      → IsBefore (λ more text. ReadsLines r stage number
      (if lf then full front (lines_from [] (bytes ++ more)) else (if room then lines_from (front ++ b ∷ []) (bytes ++ more) else long)) text)
  line_more stage number front b bytes true room later on (turnout, feeds, h) =
      let after = after_line turnout number bytes (λ next. later next (number + 1)) h in
      record { behind = after.behind; rest_is = after.rest_is; reads = λ more. (turnout, feeds, after.reads more) }
  line_more stage number front b bytes false true later on h = on h
  line_more stage number front b bytes false false later on h = not_refused number _ h

  more_lines : (stage : ReaderState) (number : ℕ) (front bytes : List ℕ) → Now stage number (lines_from front bytes)
      → IsBefore (λ more text. ReadsLines r stage number (lines_from front (bytes ++ more)) text)
  more_lines stage number [] [] h = not_refused number _ h
  more_lines stage number (b ∷ front) [] h = not_refused number _ h
  more_lines stage number front (b ∷ bytes) h =
      line_more stage number front b bytes (b == 10) (nat_lt (length front) 200) (λ next k x. more_lines next k [] bytes x) (λ x. more_lines stage number (front ++ b ∷ []) bytes x) h

  pub text_more : (bytes : List ℕ) → IsTextOf r (lines_of bytes) (whole said rest) → IsBefore (λ more text. IsTextOf r (lines_of (bytes ++ more)) text)
  text_more bytes h = more_lines Header 1 [] bytes h
