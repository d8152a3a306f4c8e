-- What each line makes of a text that is read. Crates above cite these lemmas.
use Rattle.std.proofs.Common.{◌≡◌, ℕ, ◌+◌, ◌-◌, ◌<◌, ◌≤◌, List, [], ◌∷◌, ◌++◌, length, take, Option, Ok, Err, Some, None, IfSome, IsTrue, inl, inr, refl, sym, ◌∙◌, ap, subst, arith, append_assoc, length-append}
use Rattle.std.specs.Prelude.{unwrap_or}
use Rattle.std.specs.Io.KnownBytes.{Consumes, IsAtEnd}
use Rattle.std.specs.List.{All}
use Rattle.std.proofs.KnownBytes.{Consumes-nil, Consumes-trans}
use Rattle.std.proofs.lemmas.List.{append-nil, take_all, take-append-le}
use Rattle.std.proofs.lemmas.List.Elements.{All-push, All-nil}
use Rattle.chess_game.proofs.UnsoundnessLemmas.{number_cases}
use Rattle.desk_base.specs.Lines.{Lines, IsLine, part_of, lines_of}
use Rattle.desk_base.specs.Reading.{KeepsLine, Takes}
use Rattle.desk_base.proofs.LinesOf.{line_first}
use Rattle.desk_base.specs.declared.line.Line.TheVariants.{Full, End}
use Rattle.desk_base.specs.declared.line.LineError.TheVariants as fails
use Rattle.chess_text.specs.Draft.{Draft, nobody, with_man}
use Rattle.chess_text.specs.Grammar.{IsPlaceOf}
use Rattle.chess_text.specs.PositionText.{Feeds, Turnout, text_of_lines}
use Rattle.chess_text.specs.declared.grammar.Grammar.{Grammar}
use Rattle.chess_text.specs.PositionText as turnouts
use Rattle.chess_text.specs.Progress.{IsFed, Progress, Reads, line_due}
use Rattle.chess_text.specs.declared.man_line.TextWhy.{TextWhy}
use Rattle.chess_text.specs.declared.reader.ReaderState.{ReaderState}
use Rattle.chess_text.specs.declared.reader.ReaderState.TheVariants as stages
use Rattle.chess_text.specs.declared.reader.LineOutcome.{LineOutcome}
use Rattle.chess_text.specs.declared.reader.LineOutcome.TheVariants as steps
use Rattle.desk_text.specs.Taken.{TakesLines}
use Rattle.desk_text.specs.Text.{Text, Reading, whole, refused, AfterLine, IsTextOf, ReadsLines, is_end}
use Rattle.desk_text.specs.TextRead.{IsMissingOf, TextReadOf}
use Rattle.desk_text.specs.declared.text.LineWhy.{LineWhy}
use Rattle.desk_text.specs.declared.text.LineWhy.TheVariants as refusals
use Rattle.desk_text.specs.declared.text.TextEnd.TheVariants.{Fault, Refused}

-- how many lines may come before the last
abbrev pub lines_left : Grammar → ReaderState → ℕ
lines_left g stages.Header = g.most_men + 2
lines_left g stages.Turn = g.most_men + 1
lines_left g (stages.Men d) = g.most_men - length d.men

-- there are no more men than a text may have, on places that it may name
abbrev pub AreMen : Grammar → ReaderState → Type 0
AreMen g stages.Header = Unit {0}
AreMen g stages.Turn = Unit {0}
AreMen g (stages.Men d) = (length d.men ≤ g.most_men) × All (λ m. IsPlaceOf g m.place) d.men

-- what a text that goes on has come to
pub record GoesOn (g : Grammar) (stage next : ReaderState) : Type 0 where
  pub counted : line_due next ≡ line_due stage + 1
  pub men : AreMen g next
  pub nearer : AreMen g stage → lines_left g next < lines_left g stage

goes_to : (g : Grammar) (stage next due : ReaderState) → next ≡ due → GoesOn g stage due → GoesOn g stage next
goes_to g stage next due is h = let P : ReaderState → Type 0 = λ s. GoesOn g stage s in subst P (sym is) h

pub fed_more : (g : Grammar) (stage next : ReaderState) (line : List ℕ) → AreMen g stage → Feeds g stage line (turnouts.more next) → GoesOn g stage next
fed_more g stages.Header next line are (inl (e, i)) =
    goes_to g stages.Header next stages.Turn (let s : next ≡ stages.Turn = cc in s) (record { counted = refl; men = tt; nearer = λ h. omega arith })
fed_more g stages.Header next line are (inr (e, i)) = absurd (cc)
fed_more g stages.Turn next line are (inl (s, w, e, i)) =
    goes_to g stages.Turn next (stages.Men (nobody s w)) (let same : next ≡ stages.Men (nobody s w) = cc in same)
    (record { counted = refl; men = (omega arith, All-nil (λ m. IsPlaceOf g m.place)); nearer = λ h. omega arith })
fed_more g stages.Turn next line are (inr (e, i)) = absurd (cc)
fed_more g (stages.Men d) next line are (inl (a, e, i)) = absurd (cc)
fed_more g (stages.Men d) next line are (inr (inl (a, e, i))) = absurd (cc)
fed_more g (stages.Men d) next line are (inr (inr (inl (a, e, i)))) = absurd (cc)
fed_more g (stages.Men d) next line are (inr (inr (inr (a, e, inl (m, is, i))))) =
    goes_to g (stages.Men d) next (stages.Men (with_man d m)) (let same : next ≡ stages.Men (with_man d m) = cc in same)
    (record {
      counted = omega (arith, length-append d.men (m ∷ []));
      men = (omega (arith, a, length-append d.men (m ∷ [])), All-push (λ k. IsPlaceOf g k.place) d.men m are.1 is.fits);
      nearer = λ h. omega (arith, a, length-append d.men (m ∷ []));
    })
fed_more g (stages.Men d) next line are (inr (inr (inr (a, e, inr (reason, r, i))))) = absurd (cc)

-- what the reader of a text has answered
module _ (g kind : Grammar) (stage : ReaderState) (line : List ℕ) (same : kind ≡ g) where
  abbrev Fed : Turnout → Grammar → Type 0
  Fed turnout k = Feeds k stage line turnout

  pub answer_more : (to : LineOutcome) (reader : Progress) → to ≡ steps.More → Reads kind stage line (Ok to) reader
      → Feeds g stage line (turnouts.more reader.stage) × (reader.end ≡ None)
  answer_more steps.More reader is reads = (subst (Fed (turnouts.more reader.stage)) same reads.0, reads.1)
  answer_more steps.Whole reader is reads = absurd (cc)

  pub answer_whole : (to : LineOutcome) (reader : Progress) (d : Draft) → to ≡ steps.Whole → reader.stage ≡ stages.Men d → Reads kind stage line (Ok to) reader
      → Feeds g stage line (turnouts.complete d)
  answer_whole steps.More reader d is says reads = absurd (cc)
  answer_whole steps.Whole reader d is says reads =
      let At : ReaderState → Type 0 = λ s. IsFed kind stage line (Ok steps.Whole) s in
      subst (Fed (turnouts.complete d)) same (subst At says reads.0)

-- what is known of the bytes behind those taken, or nothing
pub known_rest : (after : Option (List ℕ)) → IfSome after (λ told. told ≡ unwrap_or after [])
known_rest None = tt
known_rest (Some bytes) = refl

pub no_rest : (after : Option (List ℕ)) → IsAtEnd after → IfSome after (λ told. told ≡ [])
no_rest None end = tt
no_rest (Some bytes) end = end

-- the bytes of one line more
pub with_line : (lines : List (List ℕ)) (line : List ℕ) → text_of_lines (lines ++ line ∷ []) ≡ text_of_lines lines ++ (line ++ 10 ∷ [])
with_line [] line = append-nil (line ++ 10 ∷ [])
with_line (l ∷ lines) line = ap (λ bytes. (l ++ 10 ∷ []) ++ bytes) (with_line lines line) ∙ sym (append_assoc (l ++ 10 ∷ []) (text_of_lines lines) (line ++ 10 ∷ []))

all_lines : (lines : List (List ℕ)) {line : List ℕ} → All IsLine lines → IsLine line → All IsLine (lines ++ line ∷ [])
all_lines lines {line} are is = All-push IsLine lines line are is

-- a whole line that a reader gives is one
pub line_read : (len : ℕ) (old new : List ℕ) → KeepsLine (Ok (Full len)) old new → IsLine new
line_read len old new keeps = record { free = keeps.2; short = omega (arith, keeps.0, keeps.1) }

-- The lines read so far are a text up to this stage, and `pending` was taken behind them.
pub record SoFar {A : Type 0} (r : Reading A) (stage : ReaderState) (number : ℕ) (pending : List ℕ) (before after : Option (List ℕ)) : Type 0 where
  pub lines : List (List ℕ)
  pub are_lines : All IsLine lines
  pub due : (k : ℕ) → k < length lines → IsMissingOf r (take k lines)
  pub count : number ≡ length lines + 1
  pub taken : Consumes before after (text_of_lines lines ++ pending)
  pub text : (more : List ℕ) (text : Text A) → ReadsLines r stage number (lines_of more) text → IsTextOf r (lines_of (text_of_lines lines ++ more)) text

pub nothing_read : {A : Type 0} (r : Reading A) (left : Option (List ℕ)) → SoFar r stages.Header 1 [] left left
nothing_read r left = record {
  lines = [];
  are_lines = All-nil IsLine;
  due = λ k below. absurd (omega arith);
  count = refl;
  taken = Consumes-nil left;
  text = λ more text reads. reads;
}

module _ {A : Type 0} (r : Reading A) (stage : ReaderState) (number : ℕ) (pending : List ℕ) (before mid after : Option (List ℕ)) (line rest : List ℕ) (so_far : SoFar r stage number pending before mid) where
  abbrev lines : List (List ℕ)
  lines = so_far.lines

  -- what is taken in the next call comes behind the pending bytes
  all_taken : (bytes : List ℕ) → Consumes mid after bytes → Consumes before after (text_of_lines so_far.lines ++ (pending ++ bytes))
  all_taken bytes took =
      subst (Consumes before after) (append_assoc (text_of_lines so_far.lines) pending bytes)
      (Consumes-trans before mid after (text_of_lines so_far.lines ++ pending) bytes so_far.taken took)

  module _ (len : ℕ) (took : Takes (Ok (Full len)) pending line rest mid after) (is_line : IsLine line) where
    abbrev now : List (List ℕ)
    now = so_far.lines ++ line ∷ []

    -- the line and its LF are the next bytes, and the rest is pending
    next_bytes : text_of_lines lines ++ (pending ++ took.bytes) ≡ text_of_lines now ++ rest
    next_bytes =
        ap (λ bytes. text_of_lines lines ++ bytes) (took.keeps ∙ sym (append_assoc line (10 ∷ []) rest))
        ∙ sym (append_assoc (text_of_lines lines) (line ++ 10 ∷ []) rest)
        ∙ ap (λ bytes. bytes ++ rest) (sym (with_line lines line))

    consumed : Consumes before after (text_of_lines now ++ rest)
    consumed = subst (Consumes before after) next_bytes (all_taken took.bytes took.taken)

    -- the line was due
    due_here : IsMissingOf r lines
    due_here =
        let P : List ℕ → Type 0 = λ b. IsTextOf r (lines_of b) (refused number refusals.Missing) in
        let Q : ℕ → Type 0 = λ n. IsTextOf r (lines_of (text_of_lines lines)) (refused n refusals.Missing) in
        subst Q so_far.count (subst P (append-nil (text_of_lines lines)) (so_far.text [] (refused number refusals.Missing) refl))

    due_now : (k : ℕ) → k < length now → IsMissingOf r (take k now)
    due_now k below = elim (number_cases k (length lines)) [
      | inl less ↦ subst (IsMissingOf r) (sym (take-append-le k lines (line ∷ []) (omega (arith, less)))) (so_far.due k less)
      | inr (inr more) ↦ absurd (omega (arith, more, below, length-append lines (line ∷ [])))
      | inr (inl last) ↦
          let front : take k now ≡ lines = take-append-le k lines (line ∷ []) (omega (arith, last)) ∙ take_all k lines (omega (arith, last)) in
          subst (IsMissingOf r) (sym front) due_here
    ]

    takes_now : (few : length rest ≤ 256) → TakesLines (IsMissingOf r) (text_of_lines now ++ rest) rest
    takes_now few = record { lines = now; are_lines = all_lines lines so_far.are_lines is_line; due = due_now; bytes = refl; few = few }

    text_full : (more : List ℕ) (t : Text A) (turnout : Turnout) → Feeds r.grammar stage line turnout
        → AfterLine r turnout number (lines_of more) t (λ next. ReadsLines r next (number + 1) (lines_of more) t) → IsTextOf r (lines_of (text_of_lines now ++ more)) t
    text_full more t turnout feeds after_it =
        let P : Lines → Type 0 = λ l. ReadsLines r stage number l t in
        let read = so_far.text (line ++ 10 ∷ more) t (subst P (sym (line_first line more is_line.free is_line.short)) (turnout, feeds, after_it)) in
        let Q : List ℕ → Type 0 = λ b. IsTextOf r (lines_of b) t in
        let same : text_of_lines lines ++ (line ++ 10 ∷ more) ≡ text_of_lines now ++ more =
        ap (λ bytes. text_of_lines lines ++ bytes) (sym (append_assoc line (10 ∷ []) more))
        ∙ sym (append_assoc (text_of_lines lines) (line ++ 10 ∷ []) more)
        ∙ ap (λ bytes. bytes ++ more) (sym (with_line lines line)) in
        subst Q same read

    -- the same of the bytes taken, and others behind them
    text_taken : (more : List ℕ) (t : Text A) (turnout : Turnout) → Feeds r.grammar stage line turnout
        → AfterLine r turnout number (lines_of (rest ++ more)) t (λ next. ReadsLines r next (number + 1) (lines_of (rest ++ more)) t)
        → IsTextOf r (lines_of ((text_of_lines now ++ rest) ++ more)) t
    text_taken more t turnout feeds after_it =
        let Q : List ℕ → Type 0 = λ b. IsTextOf r (lines_of b) t in
        subst Q (sym (append_assoc (text_of_lines now) rest more)) (text_full (rest ++ more) t turnout feeds after_it)

    pub goes_on : (next : ReaderState) → Feeds r.grammar stage line (turnouts.more next) → SoFar r next (number + 1) rest before after
    goes_on next feeds = record {
      lines = now;
      are_lines = all_lines lines so_far.are_lines is_line;
      due = due_now;
      count = omega (arith, so_far.count, length-append lines (line ∷ []));
      taken = consumed;
      text = λ more t here. text_full more t (turnouts.more next) feeds here;
    }

    pub is_whole : (d : Draft) → length rest ≤ 256 → Feeds r.grammar stage line (turnouts.complete d) → TextReadOf r (Ok (r.says d number)) rest before after
    unfolding takes_now
    is_whole d few feeds = record {
      bytes = text_of_lines now ++ rest;
      rest = unwrap_or after [];
      taken = consumed;
      left = known_rest after;
      takes = takes_now few;
      reads = λ more. text_full more (whole (r.says d number) (lines_of more)) (turnouts.complete d) feeds refl;
    }

    pub is_wrong : (why : TextWhy) → length rest ≤ 256 → Feeds r.grammar stage line (turnouts.wrong why) → TextReadOf r (Err (Refused number (refusals.Grammar why))) rest before after
    unfolding takes_now
    is_wrong why few feeds =
        let behind = unwrap_or after [] in
        record {
          bytes = text_of_lines now ++ rest;
          rest = behind;
          taken = consumed;
          left = known_rest after;
          reads = text_taken behind (refused number (refusals.Grammar why)) (turnouts.wrong why) feeds refl;
          takes = takes_now few;
        }

  -- no whole line came: all that was taken is pending
  module _ (bytes : List ℕ) (took : Consumes mid after bytes) (keeps : rest ≡ pending ++ bytes) where
    still : Consumes before after (text_of_lines lines ++ rest)
    still = subst (λ b. Consumes before after (text_of_lines lines ++ b)) (sym keeps) (all_taken bytes took)

    takes_still : length rest ≤ 256 → TakesLines (IsMissingOf r) (text_of_lines lines ++ rest) rest
    takes_still few = record { lines = lines; are_lines = so_far.are_lines; due = so_far.due; bytes = refl; few = few }

    refused_still : (behind : List ℕ) (why : LineWhy) → IfSome after (λ told. told ≡ behind) → length rest ≤ 256
        → ReadsLines r stage number (lines_of (rest ++ behind)) (refused number why) → TextReadOf r (Err (Refused number why)) rest before after
    unfolding takes_still
    refused_still behind why left few here =
        let Q : List ℕ → Type 0 = λ b. IsTextOf r (lines_of b) (refused number why) in
        record {
          bytes = text_of_lines lines ++ rest;
          rest = behind;
          taken = still;
          left = left;
          reads = subst Q (sym (append_assoc (text_of_lines lines) rest behind)) (so_far.text (rest ++ behind) (refused number why) here);
          takes = takes_still few;
        }

  pub is_missing : length rest ≤ 256 → Takes (Ok End) pending line rest mid after → TextReadOf r (Err (Refused number refusals.Missing)) rest before after
  is_missing few took =
      let P : Lines → Type 0 = λ l. ReadsLines r stage number l (refused number refusals.Missing) in
      refused_still took.bytes took.taken took.keeps [] refusals.Missing (no_rest after took.reads.0) few
      (subst P (sym (ap lines_of (append-nil rest ∙ took.keeps) ∙ took.reads.1)) refl)

  pub is_cut : length rest ≤ 256 → Takes (Err fails.Cut) pending line rest mid after → TextReadOf r (Err (Refused number refusals.Cut)) rest before after
  is_cut few took =
      let P : Lines → Type 0 = λ l. ReadsLines r stage number l (refused number refusals.Cut) in
      refused_still took.bytes took.taken took.keeps [] refusals.Cut (no_rest after took.reads.0) few
      (subst P (sym (ap lines_of (append-nil rest ∙ took.keeps) ∙ took.reads.1)) refl)

  pub is_long : length rest ≤ 256 → Takes (Err fails.TooLong) pending line rest mid after → TextReadOf r (Err (Refused number refusals.Long)) rest before after
  is_long few took =
      let behind = unwrap_or after [] in
      let P : Lines → Type 0 = λ l. ReadsLines r stage number l (refused number refusals.Long) in
      refused_still took.bytes took.taken took.keeps behind refusals.Long (known_rest after) few
      (subst P (sym (ap (λ b. lines_of (b ++ behind)) took.keeps ∙ ap lines_of (append_assoc pending took.bytes behind) ∙ took.reads behind)) refl)

  -- a text whose lines are a part of one ends because its input does
  part_ends : (bytes : List ℕ) → (why : LineWhy) × ReadsLines r stage number (part_of bytes) (refused number why) × IsTrue (is_end why)
  part_ends [] = (refusals.Missing, refl, refl)
  part_ends (b ∷ bytes) = (refusals.Cut, refl, refl)

  pub is_fault : length rest ≤ 256 → Takes (Err fails.Read) pending line rest mid after → TextReadOf r (Err Fault) rest before after
  unfolding takes_still
  is_fault few took =
      let part = part_ends (pending ++ took.bytes) in
      let P : Lines → Type 0 = λ l. ReadsLines r stage number l (refused number part.0) in
      record {
        bytes = text_of_lines lines ++ rest;
        rest = unwrap_or after [];
        taken = still took.bytes took.taken took.keeps;
        left = known_rest after;
        reads = record { number = number; why = part.0; text = so_far.text rest (refused number part.0) (subst P (sym (ap lines_of took.keeps ∙ took.reads)) part.1); short = part.2 };
        takes = takes_still took.bytes took.taken took.keeps few;
      }
