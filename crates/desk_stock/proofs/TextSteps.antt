-- What each line makes of a stock text that is read.
use Rattle.std.proofs.Common.{◌≡◌, ℕ, ◌+◌, ◌-◌, ◌<◌, ◌≤◌, List, [], ◌∷◌, ◌++◌, length, take, Option, Ok, Err, None, IfSome, IsTrue, inl, inr, refl, sym, ◌∙◌, ap, subst, arith, append_assoc, length-append}
use Rattle.std.specs.Prelude.{unwrap_or}
use Rattle.std.specs.Io.KnownBytes.{Consumes}
use Rattle.std.specs.List.{All}
use Rattle.std.proofs.KnownBytes.{Consumes-nil, Consumes-trans}
use Rattle.std.proofs.lemmas.List.{append-nil, take_all, take-append-le}
use Rattle.std.proofs.lemmas.List.Elements.{All-nil, All-push}
use Rattle.chess_game.proofs.UnsoundnessLemmas.{number_cases}
use Rattle.desk_base.specs.Lines.{Lines, IsLine, part_of, lines_of}
use Rattle.desk_base.specs.Reading.{Takes}
use Rattle.desk_base.proofs.LinesOf.{line_first}
use Rattle.desk_base.specs.declared.line.Line.TheVariants.{Full, End}
use Rattle.desk_base.specs.declared.line.LineError.TheVariants as fails
use Rattle.chess_text.specs.PositionText.{text_of_lines}
use Rattle.chess_text.specs.declared.reader.LineOutcome.{LineOutcome}
use Rattle.chess_text.specs.declared.reader.LineOutcome.TheVariants as steps
use Rattle.desk_text.specs.Taken.{TakesLines}
use Rattle.desk_text.proofs.TextSteps.{known_rest, no_rest, with_line}
use Rattle.stock_position.specs.declared.live.TheConstants.{MOST_STOCK}
use Rattle.stock_text.specs.Progress.{IsFed, Progress, Reads, line_due}
use Rattle.stock_text.specs.Stock.{Stock, no_men, with_man}
use Rattle.stock_text.specs.StockText.{Feeds, Turnout}
use Rattle.stock_text.specs.StockText as turnouts
use Rattle.stock_text.specs.declared.man_line.StockWhy.{StockWhy}
use Rattle.stock_text.specs.declared.reader.StockState.{StockState}
use Rattle.stock_text.specs.declared.reader.StockState.TheVariants as states
use Rattle.stock_text.proofs.StockLemmas.{goes_on, has_header, has_winner}
use Rattle.desk_stock.specs.StockAt.{Text, whole, refused, AfterLine, IsTextOf, ReadsLines, is_end}
use Rattle.desk_stock.specs.StockRead.{IsMissing, StockRead}
use Rattle.desk_stock.specs.declared.text.StockLineWhy.{StockLineWhy}
use Rattle.desk_stock.specs.declared.text.StockLineWhy.TheVariants as refusals
use Rattle.desk_stock.specs.declared.text.StockTextEnd.TheVariants.{Fault, Refused}

-- how many lines may come before the last
abbrev pub lines_left : StockState → ℕ
lines_left states.Header = MOST_STOCK + 2
lines_left states.Winner = MOST_STOCK + 1
lines_left (states.Men s) = MOST_STOCK - length s.men

-- there are no more men than a stock may have
abbrev pub AreMen : StockState → Type 0
AreMen states.Header = Unit {0}
AreMen states.Winner = Unit {0}
AreMen (states.Men s) = length s.men ≤ MOST_STOCK

-- what is known after a line if the text continues
pub record Continues (state next : StockState) : Type 0 where
  pub counted : line_due next ≡ line_due state + 1
  pub men : AreMen next
  pub nearer : AreMen state → lines_left next < lines_left state

goes_to : (state next due : StockState) → next ≡ due → Continues state due → Continues state next
goes_to state next due is h = subst (Continues state) (sym is) h

pub fed_more : (state next : StockState) (line : List ℕ) → AreMen state → Feeds state line (turnouts.more next) → Continues state next
fed_more states.Header next line are feeds =
    goes_to states.Header next states.Winner (has_header line next feeds).next_is (record { counted = refl; men = tt; nearer = λ h. omega arith })
fed_more states.Winner next line are feeds =
    let named = has_winner line next feeds in
    goes_to states.Winner next (states.Men (no_men named.winner)) named.next_is (record { counted = refl; men = omega arith; nearer = λ h. omega arith })
fed_more (states.Men s) next line are feeds =
    let on = goes_on s line next feeds in
    goes_to (states.Men s) next (states.Men (with_man s on.man)) on.next_is
    (record {
      counted = omega (arith, length-append s.men (on.man ∷ []));
      men = omega (arith, on.room, length-append s.men (on.man ∷ []));
      nearer = λ h. omega (arith, on.room, length-append s.men (on.man ∷ []));
    })

-- the results of the parser
module _ (state : StockState) (line : List ℕ) where
  pub answer_more : (to : LineOutcome) (reader : Progress) → to ≡ steps.More → Reads state line (Ok to) reader
      → Feeds state line (turnouts.more reader.state) × (reader.end ≡ None)
  answer_more steps.More reader is reads = reads
  answer_more steps.Whole reader is reads = absurd (cc)

  pub answer_whole : (to : LineOutcome) (reader : Progress) (s : Stock) → to ≡ steps.Whole → reader.state ≡ states.Men s → Reads state line (Ok to) reader
      → Feeds state line (turnouts.complete s)
  answer_whole steps.More reader s is says reads = absurd (cc)
  answer_whole steps.Whole reader s is says reads =
      let At : StockState → Type 0 = λ t. IsFed state line (Ok steps.Whole) t in
      subst At says reads.0

-- The lines read so far are a text up to this state, and `pending` was taken after them.
pub record SoFar (state : StockState) (number : ℕ) (pending : List ℕ) (before after : Option (List ℕ)) : Type 0 where
  pub lines : List (List ℕ)
  pub are_lines : All IsLine lines
  pub due : (k : ℕ) → k < length lines → IsMissing (take k lines)
  pub count : number ≡ length lines + 1
  pub taken : Consumes before after (text_of_lines lines ++ pending)
  pub text : (more : List ℕ) (text : Text) → ReadsLines state number (lines_of more) text → IsTextOf (lines_of (text_of_lines lines ++ more)) text

pub nothing_read : (left : Option (List ℕ)) → SoFar states.Header 1 [] left left
nothing_read left = record {
  lines = [];
  are_lines = All-nil IsLine;
  due = λ k below. absurd (omega arith);
  count = refl;
  taken = Consumes-nil left;
  text = λ more text reads. reads;
}

module _ (state : StockState) (number : ℕ) (pending : List ℕ) (before mid after : Option (List ℕ)) (line rest : List ℕ) (so_far : SoFar state number pending before mid) where
  abbrev lines : List (List ℕ)
  lines = so_far.lines

  -- what is taken in the next call comes after the pending bytes
  all_taken : (bytes : List ℕ) → Consumes mid after bytes → Consumes before after (text_of_lines so_far.lines ++ (pending ++ bytes))
  all_taken bytes took =
      subst (Consumes before after) (append_assoc (text_of_lines so_far.lines) pending bytes)
      (Consumes-trans before mid after (text_of_lines so_far.lines ++ pending) bytes so_far.taken took)

  module _ (len : ℕ) (took : Takes (Ok (Full len)) pending line rest mid after) (is_line : IsLine line) where
    abbrev now : List (List ℕ)
    now = so_far.lines ++ line ∷ []

    -- the line and its LF are the next bytes, and the rest is pending
    next_bytes : text_of_lines lines ++ (pending ++ took.bytes) ≡ text_of_lines now ++ rest
    next_bytes =
        ap (λ bytes. text_of_lines lines ++ bytes) (took.keeps ∙ sym (append_assoc line (10 ∷ []) rest))
        ∙ sym (append_assoc (text_of_lines lines) (line ++ 10 ∷ []) rest)
        ∙ ap (λ bytes. bytes ++ rest) (sym (with_line lines line))

    consumed : Consumes before after (text_of_lines now ++ rest)
    consumed = subst (Consumes before after) next_bytes (all_taken took.bytes took.taken)

    -- the line was due
    due_here : IsMissing lines
    due_here =
        let P : List ℕ → Type 0 = λ b. IsTextOf (lines_of b) (refused number refusals.Missing) in
        let Q : ℕ → Type 0 = λ n. IsTextOf (lines_of (text_of_lines lines)) (refused n refusals.Missing) in
        subst Q so_far.count (subst P (append-nil (text_of_lines lines)) (so_far.text [] (refused number refusals.Missing) refl))

    due_now : (k : ℕ) → k < length now → IsMissing (take k now)
    due_now k below = elim (number_cases k (length lines)) [
      | inl less ↦ subst IsMissing (sym (take-append-le k lines (line ∷ []) (omega (arith, less)))) (so_far.due k less)
      | inr (inr more) ↦ absurd (omega (arith, more, below, length-append lines (line ∷ [])))
      | inr (inl last) ↦
          let front : take k now ≡ lines = take-append-le k lines (line ∷ []) (omega (arith, last)) ∙ take_all k lines (omega (arith, last)) in
          subst IsMissing (sym front) due_here
    ]

    takes_now : (few : length rest ≤ 256) → TakesLines IsMissing (text_of_lines now ++ rest) rest
    takes_now few = record { lines = now; are_lines = All-push IsLine lines line so_far.are_lines is_line; due = due_now; bytes = refl; few = few }

    text_full : (more : List ℕ) (t : Text) (turnout : Turnout) → Feeds state line turnout
        → AfterLine turnout number (lines_of more) t (λ next. ReadsLines next (number + 1) (lines_of more) t) → IsTextOf (lines_of (text_of_lines now ++ more)) t
    text_full more t turnout feeds after_it =
        let P : Lines → Type 0 = λ l. ReadsLines state number l t in
        let read = so_far.text (line ++ 10 ∷ more) t (subst P (sym (line_first line more is_line.free is_line.short)) (turnout, feeds, after_it)) in
        let Q : List ℕ → Type 0 = λ b. IsTextOf (lines_of b) t in
        let same : text_of_lines lines ++ (line ++ 10 ∷ more) ≡ text_of_lines now ++ more =
        ap (λ bytes. text_of_lines lines ++ bytes) (sym (append_assoc line (10 ∷ []) more))
        ∙ sym (append_assoc (text_of_lines lines) (line ++ 10 ∷ []) more)
        ∙ ap (λ bytes. bytes ++ more) (sym (with_line lines line)) in
        subst Q same read

    -- the same of the bytes taken, and others after them
    text_taken : (more : List ℕ) (t : Text) (turnout : Turnout) → Feeds state line turnout
        → AfterLine turnout number (lines_of (rest ++ more)) t (λ next. ReadsLines next (number + 1) (lines_of (rest ++ more)) t)
        → IsTextOf (lines_of ((text_of_lines now ++ rest) ++ more)) t
    text_taken more t turnout feeds after_it =
        let Q : List ℕ → Type 0 = λ b. IsTextOf (lines_of b) t in
        subst Q (sym (append_assoc (text_of_lines now) rest more)) (text_full (rest ++ more) t turnout feeds after_it)

    pub reads_on : (next : StockState) → Feeds state line (turnouts.more next) → SoFar next (number + 1) rest before after
    reads_on next feeds = record {
      lines = now;
      are_lines = All-push IsLine lines line so_far.are_lines is_line;
      due = due_now;
      count = omega (arith, so_far.count, length-append lines (line ∷ []));
      taken = consumed;
      text = λ more t here. text_full more t (turnouts.more next) feeds here;
    }

    pub is_whole : (d : Stock) → length rest ≤ 256 → Feeds state line (turnouts.complete d) → StockRead (Ok d) rest before after
    unfolding takes_now
    is_whole d few feeds = record {
      bytes = text_of_lines now ++ rest;
      rest = unwrap_or after [];
      taken = consumed;
      left = known_rest after;
      takes = takes_now few;
      reads = λ more. text_full more (whole d (lines_of more)) (turnouts.complete d) feeds refl;
    }

    pub is_wrong : (why : StockWhy) → length rest ≤ 256 → Feeds state line (turnouts.wrong why) → StockRead (Err (Refused number (refusals.Grammar why))) rest before after
    unfolding takes_now
    is_wrong why few feeds =
        let tail = unwrap_or after [] in
        record {
          bytes = text_of_lines now ++ rest;
          rest = tail;
          taken = consumed;
          left = known_rest after;
          reads = text_taken tail (refused number (refusals.Grammar why)) (turnouts.wrong why) feeds refl;
          takes = takes_now few;
        }

  -- no whole line came: all that was taken is pending
  module _ (bytes : List ℕ) (took : Consumes mid after bytes) (keeps : rest ≡ pending ++ bytes) where
    still : Consumes before after (text_of_lines lines ++ rest)
    still = subst (λ b. Consumes before after (text_of_lines lines ++ b)) (sym keeps) (all_taken bytes took)

    takes_still : length rest ≤ 256 → TakesLines IsMissing (text_of_lines lines ++ rest) rest
    takes_still few = record { lines = lines; are_lines = so_far.are_lines; due = so_far.due; bytes = refl; few = few }

    refused_still : (tail : List ℕ) (why : StockLineWhy) → IfSome after (λ told. told ≡ tail) → length rest ≤ 256
        → ReadsLines state number (lines_of (rest ++ tail)) (refused number why) → StockRead (Err (Refused number why)) rest before after
    unfolding takes_still
    refused_still tail why left few here =
        let Q : List ℕ → Type 0 = λ b. IsTextOf (lines_of b) (refused number why) in
        record {
          bytes = text_of_lines lines ++ rest;
          rest = tail;
          taken = still;
          left = left;
          reads = subst Q (sym (append_assoc (text_of_lines lines) rest tail)) (so_far.text (rest ++ tail) (refused number why) here);
          takes = takes_still few;
        }

  pub is_missing : length rest ≤ 256 → Takes (Ok End) pending line rest mid after → StockRead (Err (Refused number refusals.Missing)) rest before after
  is_missing few took =
      let P : Lines → Type 0 = λ l. ReadsLines state number l (refused number refusals.Missing) in
      refused_still took.bytes took.taken took.keeps [] refusals.Missing (no_rest after took.reads.0) few
      (subst P (sym (ap lines_of (append-nil rest ∙ took.keeps) ∙ took.reads.1)) refl)

  pub is_cut : length rest ≤ 256 → Takes (Err fails.Cut) pending line rest mid after → StockRead (Err (Refused number refusals.Cut)) rest before after
  is_cut few took =
      let P : Lines → Type 0 = λ l. ReadsLines state number l (refused number refusals.Cut) in
      refused_still took.bytes took.taken took.keeps [] refusals.Cut (no_rest after took.reads.0) few
      (subst P (sym (ap lines_of (append-nil rest ∙ took.keeps) ∙ took.reads.1)) refl)

  pub is_long : length rest ≤ 256 → Takes (Err fails.TooLong) pending line rest mid after → StockRead (Err (Refused number refusals.Long)) rest before after
  is_long few took =
      let tail = unwrap_or after [] in
      let P : Lines → Type 0 = λ l. ReadsLines state number l (refused number refusals.Long) in
      refused_still took.bytes took.taken took.keeps tail refusals.Long (known_rest after) few
      (subst P (sym (ap (λ b. lines_of (b ++ tail)) took.keeps ∙ ap lines_of (append_assoc pending took.bytes tail) ∙ took.reads tail)) refl)

  -- a text whose lines are a part of one ends because its input does
  part_ends : (bytes : List ℕ) → (why : StockLineWhy) × ReadsLines state number (part_of bytes) (refused number why) × IsTrue (is_end why)
  part_ends [] = (refusals.Missing, refl, refl)
  part_ends (b ∷ bytes) = (refusals.Cut, refl, refl)

  pub is_fault : length rest ≤ 256 → Takes (Err fails.Read) pending line rest mid after → StockRead (Err Fault) rest before after
  unfolding takes_still
  is_fault few took =
      let part = part_ends (pending ++ took.bytes) in
      let P : Lines → Type 0 = λ l. ReadsLines state number l (refused number part.0) in
      record {
        bytes = text_of_lines lines ++ rest;
        rest = unwrap_or after [];
        taken = still took.bytes took.taken took.keeps;
        left = known_rest after;
        reads = record { number = number; why = part.0; text = so_far.text rest (refused number part.0) (subst P (sym (ap lines_of took.keeps ∙ took.reads)) part.1); short = part.2 };
        takes = takes_still took.bytes took.taken took.keeps few;
      }
