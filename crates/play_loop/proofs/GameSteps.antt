-- What was played of a game so far, line by line.
use Rattle.std.proofs.Common.{◌≡◌, ℕ, ◌+◌, ◌<◌, ◌≤◌, ◌==◌, List, [], ◌∷◌, ◌++◌, length, take, Bool, true, false, Option, Some, None, IfSome, Ok, Err, IsTrue, inl, inr, refl, sym, ap, subst, ◌∙◌, arith, append_assoc, append-nil, length-append}
use Rattle.std.specs.Prelude.{unwrap_or}
use Rattle.std.specs.List.{All}
use Rattle.std.specs.Io.KnownBytes.{Appends, Consumes, IsAtEnd}
use Rattle.std.proofs.KnownBytes.{Appends-nil, Appends-trans, Consumes-nil, Consumes-trans}
use Rattle.std.proofs.lemmas.List.{take_all, take-append-le}
use Rattle.std.proofs.lemmas.List.Elements.{All-head, All-nil, All-push, All-tail}
use Rattle.chess_game.proofs.UnsoundnessLemmas.{number_cases}
use Rattle.desk_base.specs.Faults.{HasRisen}
use Rattle.desk_base.specs.Lines.{IsLine, Lines, full, ended, cut, long, lines_of, part_of}
use Rattle.desk_base.specs.Moves.{AppendsFront}
use Rattle.desk_base.specs.Reading.{Takes}
use Rattle.desk_base.specs.declared.line.Line.TheVariants.{Full, End}
use Rattle.desk_base.specs.declared.line.LineError.TheVariants as fails
use Rattle.desk_base.specs.declared.source.Failed.{Failed}
use Rattle.desk_base.proofs.LinesOf.{line_first}
use Rattle.chess_text.specs.PositionText.{text_of_lines}
use Rattle.desk_text.proofs.TextSteps.{with_line}
use Rattle.play_loop.specs.LineReport.{AtLines, Begins, IsReport, LineReport, OrTooMany, closes, behind, ends, most_lines}
use Rattle.play_loop.specs.Played.{IsDue, IsPlayed, IsSettled, Ports, is_short, ports}
use Rattle.play_loop.specs.Turns.{ArePlayable, Comes, IsTurnMade, OfLine, Rules, Turn}
use Rattle.play_loop.specs.declared.ending.Ending.{Ending}
use Rattle.play_loop.specs.declared.ending.Ending.TheVariants.{CutAt, LongAt, Many, NoLine}
use Rattle.play_loop.specs.declared.play.GameError.TheVariants as error
use Rattle.play_loop.proofs.Fronts.{front_at}
use Rattle.play_loop.proofs.Reports.{begins_on, begins_over, one_report, some_later}
use Rattle.play_loop.proofs.TurnLemmas.{IsDueIn, due_after, first_due_after}

-- an input with these lines, followed by others
abbrev pub with_lines : List (List ℕ) → Lines → Lines
with_lines [] more = more
with_lines (line ∷ lines) more = full line (with_lines lines more)

with_lines_push : (lines : List (List ℕ)) (line : List ℕ) (more : Lines) → with_lines (lines ++ line ∷ []) more ≡ with_lines lines (full line more)
with_lines_push [] line more = refl
with_lines_push (l ∷ lines) line more = ap (full l) (with_lines_push lines line more)

lines_with : (lines : List (List ℕ)) (more : List ℕ) → All IsLine lines → lines_of (text_of_lines lines ++ more) ≡ with_lines lines (lines_of more)
lines_with [] more are = refl
lines_with (l ∷ lines) more are =
    let is = All-head IsLine l lines are in
    let bytes : text_of_lines (l ∷ lines) ++ more ≡ l ++ 10 ∷ (text_of_lines lines ++ more) =
    append_assoc (l ++ 10 ∷ []) (text_of_lines lines) more ∙ append_assoc l (10 ∷ []) (text_of_lines lines ++ more) in
    ap lines_of bytes ∙ (line_first l (text_of_lines lines ++ more) is.free is.short ∙ ap (full l) (lines_with lines more (All-tail IsLine l lines are)))

-- the lines of a text alone
lines_alone : (lines : List (List ℕ)) → All IsLine lines → lines_of (text_of_lines lines) ≡ with_lines lines ended
lines_alone lines are = sym (ap lines_of (append-nil (text_of_lines lines))) ∙ lines_with lines [] are

-- the bytes after those that were taken, or none if they are not exposed
known_rest : (left : Option (List ℕ)) → IfSome left (λ told. told ≡ unwrap_or left [])
known_rest None = tt
known_rest (Some bytes) = refl

no_rest : (left : Option (List ℕ)) → IsAtEnd left → IfSome left (λ told. told ≡ [])
no_rest None end = tt
no_rest (Some bytes) end = end

not_most : (read : ℕ) → read < most_lines → (read == most_lines) ≡ false
not_most read low = grind arith

-- no line was read yet, and one is due
none_of : (lines : List (List ℕ)) → length lines ≡ 0 → lines ≡ []
none_of [] none = refl
none_of (line ∷ lines) none = absurd (omega (arith, none))

-- a count of faults has risen since before
pub risen_from : (first before now : ℕ) → first ≤ before → HasRisen before now → HasRisen first now
risen_from first before now low risen = grind arith

module _ {G : Type 0} where
  many_false : (stop : Bool) (g : G) (left : Lines) (r : LineReport G) (P : Type 0) → stop ≡ false → P → OrTooMany stop g left r P
  many_false true g left r P is h = absurd (cc)
  many_false false g left r P is h = h

  many_true : (stop : Bool) (g : G) (left : Lines) (r : LineReport G) (P : Type 0) → stop ≡ true → r ≡ ends Many g left → OrTooMany stop g left r P
  many_true true g left r P is h = h
  many_true false g left r P is h = absurd (cc)

  -- the report of what was written, and of what comes later
  abbrev pub told_before : List ℕ → List G → LineReport G → LineReport G
  told_before text games later = record { text = text ++ later.text; games = games ++ later.games; last = later.last; ending = later.ending; left = later.left }

  told_joined : (text : List ℕ) (games : List G) (t : Turn G) (later : LineReport G) → told_before text games (behind t later) ≡ told_before (text ++ t.text) (games ++ t.games) later
  told_joined text games t later = λ i. record {
    text = sym (append_assoc text t.text later.text) i;
    games = sym (append_assoc games t.games later.games) i;
    last = later.last;
    ending = later.ending;
    left = later.left;
  }

-- a line is due after these, and this number of bytes is at least that of their report
abbrev pub IsDueWithin : {G : Type 0} → Rules G → ℕ → G → List (List ℕ) → ℕ → Type 0
IsDueWithin {G} rules before g lines count =
    (report : LineReport G) × IsReport rules before (lines_of (text_of_lines lines)) g report × (report.ending ≡ NoLine) × (length report.text ≤ count)

-- A game began as `g`, and after this number of lines what `At` says of the lines after them is the rest of its report.
pub record SoFar {G : Type 0} (rules : Rules G) (At : Lines → LineReport G → Type 0) (before read : ℕ) (g : G) (old new : Ports) : Type 0 where
  pub lines : List (List ℕ)
  pub count : length lines ≡ read
  pub are_lines : All IsLine lines
  pub bytes : List ℕ
  pub taken : Consumes old.left new.left bytes
  pub held : old.pending ++ bytes ≡ text_of_lines lines ++ new.pending
  pub text : List ℕ
  pub games : List G
  pub written : Appends old.written new.written text
  pub due : (k : ℕ) → k < length lines → IsDueWithin rules before g (take k lines) (length text)
  pub goes : (more : Lines) (later : LineReport G) → At more later → IsReport rules before (with_lines lines more) g (told_before text games later)

-- what is to come where a line is due
abbrev pub AtDue : {G : Type 0} → Rules G → ℕ → ℕ → G → Lines → LineReport G → Type 0
AtDue rules before read now more later = AtLines rules before read more now later

-- and what is to come of a turn
abbrev pub AtTurn : {G : Type 0} → Rules G → (Turn G → Type 0) → ℕ → ℕ → Lines → LineReport G → Type 0
AtTurn {G} rules May before read more later = (t : Turn G) × May t × Begins (λ next x. AtLines rules before read more next x) more t later

module _ {G : Type 0} (rules : Rules G) where
  pub at_first : (before : ℕ) (g : G) (pending : List ℕ) (left written : Option (List ℕ))
      → SoFar rules (AtTurn rules (Comes rules g) before 0) before 0 g (ports pending left written) (ports pending left written)
  at_first before g pending left written = record {
    lines = [];
    count = refl;
    are_lines = All-nil IsLine;
    due = λ k below. absurd (omega (arith, below));
    bytes = [];
    taken = Consumes-nil left;
    held = append-nil pending;
    text = [];
    games = [];
    written = Appends-nil written;
    goes = λ more later at. at;
  }

  module _ (At : Lines → LineReport G → Type 0) (before read : ℕ) (g : G) (old : Ports) (pending : List ℕ) (left written : Option (List ℕ))
      (so_far : SoFar rules At before read g old (ports pending left written)) where
    -- the lines of all that was taken, followed by others
    lines_held : (more : List ℕ) → lines_of ((old.pending ++ so_far.bytes) ++ more) ≡ with_lines so_far.lines (lines_of (pending ++ more))
    lines_held more =
        ap (λ bytes. lines_of (bytes ++ more)) so_far.held
        ∙ (ap lines_of (append_assoc (text_of_lines so_far.lines) pending more) ∙ lines_with so_far.lines (pending ++ more) so_far.are_lines)

    reported : (more : List ℕ) (later : LineReport G) → At (lines_of (pending ++ more)) later
        → IsReport rules before (lines_of (old.pending ++ (so_far.bytes ++ more))) g (told_before so_far.text so_far.games later)
    reported more later at =
        let P : List ℕ → Type 0 = λ bytes. IsReport rules before (lines_of bytes) g (told_before so_far.text so_far.games later) in
        let L : Lines → Type 0 = λ lines. IsReport rules before lines g (told_before so_far.text so_far.games later) in
        subst P (append_assoc old.pending so_far.bytes more) (subst L (sym (lines_held more)) (so_far.goes (lines_of (pending ++ more)) later at))

    reported_taken : (later : LineReport G) → At (lines_of pending) later → IsReport rules before (lines_of (old.pending ++ so_far.bytes)) g (told_before so_far.text so_far.games later)
    reported_taken later at =
        let P : List ℕ → Type 0 = λ bytes. IsReport rules before (lines_of (old.pending ++ bytes)) g (told_before so_far.text so_far.games later) in
        let Q : List ℕ → Type 0 = λ bytes. At (lines_of bytes) later in
        subst P (append-nil so_far.bytes) (reported [] later (subst Q (sym (append-nil pending)) at))

    due_at : (k : ℕ) → k < length so_far.lines → IsDue rules before g (take k so_far.lines)
    due_at k below = let due = so_far.due k below in (due.0, due.1, due.2)

    -- the text was followed by another
    all_written : (after : Option (List ℕ)) (text : List ℕ) → Appends written after text → Appends old.written after (so_far.text ++ text)
    all_written after text more = Appends-trans old.written written after so_far.text text so_far.written more

    module _ (few : length pending ≤ 256) (after : G) (last : Option (List ℕ)) where
      -- the game ends as its report does
      pub ends_so : (rest : List ℕ) → IfSome left (λ told. told ≡ rest) → (r : LineReport G) (ending : Ending) → At (lines_of (pending ++ rest)) r
          → r.left ≡ lines_of (pending ++ rest) → r.ending ≡ ending → Appends written last r.text → r.last ≡ after
          → IsPlayed rules (Ok ending) before g after old (ports pending left last)
      ends_so rest told r ending at is_left is_ending wrote is_last = record {
        bytes = so_far.bytes;
        rest = rest;
        taken = so_far.taken;
        left = told;
        takes = record { lines = so_far.lines; are_lines = so_far.are_lines; due = due_at; bytes = so_far.held; few = few };
        ends = (
          told_before so_far.text so_far.games r,
          record { reports = reported rest r at; written = all_written last r.text wrote; left = is_left; last = is_last },
          is_ending,
        );
      }

      -- the source has failed
      pub reads_so : (r : LineReport G) → At (lines_of pending) r → r.left ≡ lines_of pending → IsTrue (is_short r.ending) → Appends written last r.text
          → r.last ≡ after → IsPlayed rules (Err error.Read) before g after old (ports pending left last)
      reads_so r at is_left short wrote is_last = record {
        bytes = so_far.bytes;
        rest = unwrap_or left [];
        taken = so_far.taken;
        left = known_rest left;
        takes = record { lines = so_far.lines; are_lines = so_far.are_lines; due = due_at; bytes = so_far.held; few = few };
        ends = (
          told_before so_far.text so_far.games r,
          record { reports = reported_taken r at; written = all_written last r.text wrote; left = is_left; last = is_last },
          short,
        );
      }

      -- the sink has failed
      pub writes_so : (text : List ℕ) → ((more : Lines) → (whole : LineReport G) × At more whole × (behind : List ℕ) × (whole.text ≡ text ++ behind)) → AppendsFront written last text
          → IsPlayed rules (Err error.Write) before g after old (ports pending left last)
      writes_so text longer wrote =
          let rest = unwrap_or left [] in
          let w = longer (lines_of (pending ++ rest)) in
          let count = length so_far.text + wrote.count in
          let low = wrote.proper in
          let longer_text : length w.0.text ≡ length text + length w.2 = ap length w.3 ∙ length-append text w.2 in
          let P : List ℕ → Type 0 = λ bytes. Appends old.written last (take count (so_far.text ++ bytes)) in
          record {
            bytes = so_far.bytes;
            rest = rest;
            taken = so_far.taken;
            left = known_rest left;
            takes = record { lines = so_far.lines; are_lines = so_far.are_lines; due = due_at; bytes = so_far.held; few = few };
            ends = (
              told_before so_far.text so_far.games w.0,
              reported rest w.0 w.1,
              record {
                count = count;
                proper = omega (arith, low, longer_text, length-append so_far.text w.0.text);
                front = subst P (sym w.3) (front_at old.written so_far.text w.2 so_far.written wrote);
              },
              λ k below. let due = so_far.due k below in (due.0, due.1, omega (arith, due.3)),
            );
          }

    -- more bytes were taken, and no line came
    pub takes_more : (rest : List ℕ) (after : Option (List ℕ)) (bytes : List ℕ) → Consumes left after bytes → rest ≡ pending ++ bytes
        → SoFar rules At before read g old (ports rest after written)
    takes_more rest after bytes took keeps = record {
      lines = so_far.lines;
      count = so_far.count;
      are_lines = so_far.are_lines;
      due = so_far.due;
      bytes = so_far.bytes ++ bytes;
      taken = Consumes-trans old.left left after so_far.bytes bytes so_far.taken took;
      held =
          sym (append_assoc old.pending so_far.bytes bytes)
          ∙ (ap (λ b. b ++ bytes) so_far.held ∙ (append_assoc (text_of_lines so_far.lines) pending bytes ∙ ap (λ b. text_of_lines so_far.lines ++ b) (sym keeps)));
      text = so_far.text;
      games = so_far.games;
      written = so_far.written;
      goes = so_far.goes;
    }

  -- a line is due
  module _ (before read : ℕ) (g now : G) (old : Ports) (pending : List ℕ) (left written : Option (List ℕ))
      (so_far : SoFar rules (AtDue rules before read now) before read g old (ports pending left written)) (low : read < most_lines) where
    -- the report ends here, where the lines do
    due_within : IsDueWithin rules before g so_far.lines (length so_far.text)
    due_within =
        let P : Lines → Type 0 = λ lines. IsReport rules before lines g (told_before so_far.text so_far.games (ends NoLine now ended)) in (
          told_before so_far.text so_far.games (ends NoLine now ended),
          subst P (sym (lines_alone so_far.lines so_far.are_lines))
              (so_far.goes ended (ends NoLine now ended) (many_false (read == most_lines) now ended (ends NoLine now ended) (ends NoLine now ended ≡ ends NoLine now ended) (not_most read low) refl)),
          refl,
          omega (arith, length-append so_far.text []),
        )

    pub due_here : IsDue rules before g so_far.lines
    due_here = (due_within.0, due_within.1, due_within.2)

    module _ (line rest : List ℕ) (after : Option (List ℕ)) where
      pub line_came : (len : ℕ) → Takes (Ok (Full len)) pending line rest left after → IsLine line
          → SoFar rules (AtTurn rules (OfLine rules now line) before (read + 1)) before (read + 1) g old (ports rest after written)
      line_came len took is_line = record {
        lines = so_far.lines ++ line ∷ [];
        count = omega (arith, so_far.count, length-append so_far.lines (line ∷ []));
        are_lines = All-push IsLine so_far.lines line so_far.are_lines is_line;
        due = λ k below. elim (number_cases k (length so_far.lines)) [
          | inl less ↦ subst (λ (xs : List (List ℕ)). IsDueWithin rules before g xs (length so_far.text)) (sym (take-append-le k so_far.lines (line ∷ []) (omega (arith, less)))) (so_far.due k less)
          | inr (inr more) ↦ absurd (omega (arith, more, below, length-append so_far.lines (line ∷ [])))
          | inr (inl is_last) ↦
              let front : take k (so_far.lines ++ line ∷ []) ≡ so_far.lines =
              take-append-le k so_far.lines (line ∷ []) (omega (arith, is_last)) ∙ take_all k so_far.lines (omega (arith, is_last)) in
              subst (λ (xs : List (List ℕ)). IsDueWithin rules before g xs (length so_far.text)) (sym front) due_within
        ];
        bytes = so_far.bytes ++ took.bytes;
        taken = Consumes-trans old.left left after so_far.bytes took.bytes so_far.taken took.taken;
        held =
            let lines = text_of_lines so_far.lines in
            sym (append_assoc old.pending so_far.bytes took.bytes)
            ∙ (ap (λ b. b ++ took.bytes) so_far.held
            ∙ (append_assoc lines pending took.bytes
            ∙ (ap (λ b. lines ++ b) (took.keeps ∙ sym (append_assoc line (10 ∷ []) rest))
            ∙ (sym (append_assoc lines (line ++ 10 ∷ []) rest) ∙ ap (λ b. b ++ rest) (sym (with_line so_far.lines line))))));
        text = so_far.text;
        games = so_far.games;
        written = so_far.written;
        goes = λ more later at.
            let P : Lines → Type 0 = λ lines. IsReport rules before lines g (told_before so_far.text so_far.games later) in
            subst P (sym (with_lines_push so_far.lines line more))
            (so_far.goes (full line more) later
            (many_false (read == most_lines) now (full line more) later (AtTurn rules (OfLine rules now line) before (read + 1) more later) (not_most read low) at));
      }

      module _ (few : length rest ≤ 256) where
        -- what is due ends so, where the input has these bytes left, and these lines
        ends_due : (behind bytes : List ℕ) → Consumes left after bytes → rest ≡ pending ++ bytes → IfSome after (λ told. told ≡ behind) → (lines : Lines) (ending : Ending)
            → lines_of (rest ++ behind) ≡ lines → AtLines rules before read lines now (ends ending now lines) → IsPlayed rules (Ok ending) before g now old (ports rest after written)
        ends_due behind bytes took keeps told lines ending are at =
            let P : Lines → Type 0 = λ l. AtLines rules before read l now (ends ending now lines) in
            ends_so (AtDue rules before read now) before read g old rest after written
            (takes_more (AtDue rules before read now) before read g old pending left written so_far rest after bytes took keeps) few now written
            behind told (ends ending now lines) ending (subst P (sym are) at) (sym are) refl (Appends-nil written) refl

        pub no_line_came : Takes (Ok End) pending line rest left after → IsPlayed rules (Ok NoLine) before g now old (ports rest after written)
        no_line_came took =
            ends_due [] took.bytes took.taken took.keeps (no_rest after took.reads.0) ended NoLine
            (ap lines_of (append-nil rest ∙ took.keeps) ∙ took.reads.1)
            (many_false (read == most_lines) now ended (ends NoLine now ended) (ends NoLine now ended ≡ ends NoLine now ended) (not_most read low) refl)

        pub cut_came : Takes (Err fails.Cut) pending line rest left after → IsPlayed rules (Ok (CutAt (before + read + 1))) before g now old (ports rest after written)
        cut_came took =
            let front = pending ++ took.bytes in
            let r : LineReport G = ends (CutAt (before + read + 1)) now (cut front) in
            ends_due [] took.bytes took.taken took.keeps (no_rest after took.reads.0) (cut front) (CutAt (before + read + 1))
            (ap lines_of (append-nil rest ∙ took.keeps) ∙ took.reads.1)
            (many_false (read == most_lines) now (cut front) r (r ≡ r) (not_most read low) refl)

        pub long_came : Takes (Err fails.TooLong) pending line rest left after → IsPlayed rules (Ok (LongAt (before + read + 1))) before g now old (ports rest after written)
        long_came took =
            let behind = unwrap_or after [] in
            let r : LineReport G = ends (LongAt (before + read + 1)) now long in
            ends_due behind took.bytes took.taken took.keeps (known_rest after) long (LongAt (before + read + 1))
            (ap (λ b. lines_of (b ++ behind)) took.keeps ∙ (ap lines_of (append_assoc pending took.bytes behind) ∙ took.reads behind))
            (many_false (read == most_lines) now long r (r ≡ r) (not_most read low) refl)

        -- what was taken ends within a line, or at the start of one
        short_end : List ℕ → Ending
        short_end [] = NoLine
        short_end (b ∷ bytes) = CutAt (before + read + 1)

        short_report : (bytes : List ℕ) → AtLines rules before read (part_of bytes) now (ends (short_end bytes) now (part_of bytes)) × IsTrue (is_short (short_end bytes))
        unfolding short_end
        short_report [] =
            let r : LineReport G = ends NoLine now ended in (many_false (read == most_lines) now ended r (r ≡ r) (not_most read low) refl, refl)
        short_report (b ∷ bytes) =
            let r : LineReport G = ends (CutAt (before + read + 1)) now (cut (b ∷ bytes)) in
            (many_false (read == most_lines) now (cut (b ∷ bytes)) r (r ≡ r) (not_most read low) refl, refl)

        pub read_failed : Takes (Err fails.Read) pending line rest left after → IsPlayed rules (Err error.Read) before g now old (ports rest after written)
        read_failed took =
            let held = pending ++ took.bytes in
            let s = short_report held in
            let r : LineReport G = ends (short_end held) now (part_of held) in
            let are : lines_of rest ≡ part_of held = ap lines_of took.keeps ∙ took.reads in
            let P : Lines → Type 0 = λ l. AtLines rules before read l now r in
            reads_so (AtDue rules before read now) before read g old rest after written
            (takes_more (AtDue rules before read now) before read g old pending left written so_far rest after took.bytes took.taken took.keeps) few now written
            r (subst P (sym are) s.0) (sym are) s.1 (Appends-nil written) refl

  -- as many lines were read as may be
  pub most_read : (before read : ℕ) (g now : G) (old : Ports) (pending : List ℕ) (left written : Option (List ℕ))
      → SoFar rules (AtDue rules before read now) before read g old (ports pending left written) → read ≡ most_lines → length pending ≤ 256
      → IsPlayed rules (Ok Many) before g now old (ports pending left written)
  most_read before read g now old pending left written so_far all few =
      let rest = unwrap_or left [] in
      let lines = lines_of (pending ++ rest) in
      ends_so (AtDue rules before read now) before read g old pending left written so_far few now written rest (known_rest left) (ends Many now lines) Many
      (at_most lines) refl refl (Appends-nil written) refl
    where
      is_most : (read == most_lines) ≡ true
      is_most = grind (arith, all)

      at_most : (lines : Lines) → AtLines rules before read lines now (ends Many now lines)
      at_most (full line more) = many_true (read == most_lines) now (full line more) (ends Many now (full line more)) _ is_most refl
      at_most ended = many_true (read == most_lines) now ended (ends Many now ended) _ is_most refl
      at_most (cut front) = many_true (read == most_lines) now (cut front) (ends Many now (cut front)) _ is_most refl
      at_most long = many_true (read == most_lines) now long (ends Many now long) _ is_most refl

  -- a turn came, and was made
  module _ (May : Turn G → Type 0) (before read : ℕ) (g : G) (old : Ports) (pending : List ℕ) (left written last : Option (List ℕ))
      (so_far : SoFar rules (AtTurn rules May before read) before read g old (ports pending left written)) where
    -- and a line is due
    pub turn_on : (after : G) → IsTurnMade May (Ok None) after written last → SoFar rules (AtDue rules before read after) before read g old (ports pending left last)
    turn_on after (t, may, still, is_after, wrote) = record {
      lines = so_far.lines;
      count = so_far.count;
      are_lines = so_far.are_lines;
      due = λ k below. let due = so_far.due k below in (due.0, due.1, due.2, omega (arith, due.3, length-append so_far.text t.text));
      bytes = so_far.bytes;
      taken = so_far.taken;
      held = so_far.held;
      text = so_far.text ++ t.text;
      games = so_far.games ++ t.games;
      written = Appends-trans old.written written last so_far.text t.text so_far.written wrote;
      goes = λ more later at.
          let P : G → Type 0 = λ x. AtLines rules before read more x later in
          subst (IsReport rules before (with_lines so_far.lines more) g) (told_joined so_far.text so_far.games t later)
          (so_far.goes more (behind t later) (t, may, begins_on (λ next x. AtLines rules before read more next x) more t later still (subst P (sym is_after) at)));
    }

    module _ (few : length pending ≤ 256) where
      -- and the game is over
      pub turn_over : (after : G) (ending : Ending) → IsTurnMade May (Ok (Some ending)) after written last → IsPlayed rules (Ok ending) before g after old (ports pending left last)
      turn_over after ending (t, may, over, is_after, wrote) =
          let rest = unwrap_or left [] in
          let lines = lines_of (pending ++ rest) in
          ends_so (AtTurn rules May before read) before read g old pending left written so_far few after last rest (known_rest left) (closes t ending lines) ending
          (t, may, begins_over (λ next x. AtLines rules before read lines next x) lines t ending over) refl refl wrote is_after

      -- and the sink has failed within its text
      pub turn_failed : (after : G) (why : Failed) → ((t : Turn G) → May t → t.over ≡ None → (more : Lines) → (later : LineReport G) × AtLines rules before read more t.after later)
          → IsTurnMade May (Err why) after written last → IsPlayed rules (Err error.Write) before g after old (ports pending left last)
      turn_failed after why go (t, may, wrote) =
          writes_so (AtTurn rules May before read) before read g old pending left written so_far few after last t.text (λ more. by more t.over refl) wrote
        where
          by : (more : Lines) (o : Option Ending) → t.over ≡ o
              → (whole : LineReport G) × AtTurn rules May before read more whole × (behind : List ℕ) × (whole.text ≡ t.text ++ behind)
          by more (Some ending) over =
              (closes t ending more, (t, may, begins_over (λ next x. AtLines rules before read more next x) more t ending over), [], sym (append-nil t.text))
          by more None still =
              let later = go t may still more in
              (behind t later.0, (t, may, begins_on (λ next x. AtLines rules before read more next x) more t later.0 still later.1), later.0.text, refl)

  pub first_due : (before : ℕ) (g now : G) (old : Ports) (pending : List ℕ) (left written : Option (List ℕ))
      → SoFar rules (AtDue rules before 0 now) before 0 g old (ports pending left written) → IsDue rules before g []
  first_due before g now old pending left written so_far =
      subst (IsDue rules before g) (none_of so_far.lines so_far.count) (due_here before 0 g now old pending left written so_far (omega arith))

  module _ (Kept : G → Type 0) (can : ArePlayable rules Kept) where
    -- so it is not settled without a line
    pub not_settled : (before : ℕ) (g : G) → IsDue rules before g [] → IsSettled rules before g → ⊥
    not_settled before g (r, is, e) (other, too, not_so) =
        not_so (sym (ap (λ (x : LineReport G). x.ending) (one_report rules Kept can before ended g r other is too)) ∙ e)

    -- after the first turn, and after the turn of a line, a line is due or the game is over
    pub first_lasts : (g after : G) (old new : Option (List ℕ)) → Kept g → IsTurnMade (Comes rules g) (Ok None) after old new → IsDueIn rules Kept after
    first_lasts g after old new kept (t, may, still, is_after, wrote) = subst (IsDueIn rules Kept) is_after (first_due_after rules Kept can g t kept may still)

    pub reply_lasts : (g after : G) (line : List ℕ) (old new : Option (List ℕ)) → IsDueIn rules Kept g → IsTurnMade (OfLine rules g line) (Ok None) after old new
        → IsDueIn rules Kept after
    reply_lasts g after line old new kept (t, may, still, is_after, wrote) = subst (IsDueIn rules Kept) is_after (due_after rules Kept can g line t kept may still)

    module _ (before : ℕ) (g : G) (pending : List ℕ) (left written last : Option (List ℕ)) (kept : Kept g) where
      -- what came of the start of a game
      pub opening_on : (after : G) → IsTurnMade (Comes rules g) (Ok None) after written last
          → SoFar rules (AtDue rules before 0 after) before 0 g (ports pending left written) (ports pending left last)
      opening_on after made = turn_on (Comes rules g) before 0 g (ports pending left written) pending left written last (at_first before g pending left written) after made

      pub opening_over : length pending ≤ 256 → (after : G) (ending : Ending) → IsTurnMade (Comes rules g) (Ok (Some ending)) after written last
          → IsPlayed rules (Ok ending) before g after (ports pending left written) (ports pending left last)
      opening_over few after ending made =
          turn_over (Comes rules g) before 0 g (ports pending left written) pending left written last (at_first before g pending left written) few after ending made

      pub opening_failed : length pending ≤ 256 → (after : G) (why : Failed) → IsTurnMade (Comes rules g) (Err why) after written last
          → IsPlayed rules (Err error.Write) before g after (ports pending left written) (ports pending left last)
      opening_failed few after why made =
          turn_failed (Comes rules g) before 0 g (ports pending left written) pending left written last (at_first before g pending left written) few after why
          (λ t may still more. let next = first_due_after rules Kept can g t kept may still in some_later rules Kept can before 0 more t.after next.0 next.1) made

    module _ (before read : ℕ) (g now : G) (old : Ports) (pending : List ℕ) (left written : Option (List ℕ))
        (so_far : SoFar rules (AtDue rules before read now) before read g old (ports pending left written)) (low : read < most_lines)
        (len : ℕ) (line rest : List ℕ) (mid last : Option (List ℕ)) (took : Takes (Ok (Full len)) pending line rest left mid) (is_line : IsLine line)
        (kept : IsDueIn rules Kept now) where
      -- what came of a line
      came : SoFar rules (AtTurn rules (OfLine rules now line) before (read + 1)) before (read + 1) g old (ports rest mid written)
      came = line_came before read g now old pending left written so_far low line rest mid len took is_line

      pub reply_on : (after : G) → IsTurnMade (OfLine rules now line) (Ok None) after written last
          → SoFar rules (AtDue rules before (read + 1) after) before (read + 1) g old (ports rest mid last)
      reply_on after made = turn_on (OfLine rules now line) before (read + 1) g old rest mid written last came after made

      pub reply_over : length rest ≤ 256 → (after : G) (ending : Ending) → IsTurnMade (OfLine rules now line) (Ok (Some ending)) after written last
          → IsPlayed rules (Ok ending) before g after old (ports rest mid last)
      reply_over few after ending made = turn_over (OfLine rules now line) before (read + 1) g old rest mid written last came few after ending made

      pub reply_failed : length rest ≤ 256 → (after : G) (why : Failed) → IsTurnMade (OfLine rules now line) (Err why) after written last
          → IsPlayed rules (Err error.Write) before g after old (ports rest mid last)
      reply_failed few after why made =
          turn_failed (OfLine rules now line) before (read + 1) g old rest mid written last came few after why
          (λ t may still more. let next = due_after rules Kept can now line t kept may still in some_later rules Kept can before (read + 1) more t.after next.0 next.1) made
