-- How `arith` ends, from what was read of its first line.
use Rattle.std.proofs.Common.{◌≡◌, ℕ, zero, suc, ◌<◌, ◌≤◌, List, [], ◌∷◌, ◌++◌, length, take, Option, Ok, Err, IfSome, IsTrue, refl, sym, ◌∙◌, ap, subst, append_assoc, arith}
use Rattle.std.specs.Prelude.{codes, unwrap_or}
use Rattle.std.specs.Io.KnownBytes.{Consumes}
use Rattle.std.proofs.lemmas.List.{append-nil}
use Rattle.std.proofs.lemmas.List.Elements.{All-nil, All-push}
use Rattle.desk_base.specs.Faults.{HasRisen}
use Rattle.desk_base.specs.Files.{Files}
use Rattle.desk_base.specs.Lines.{IsLine, Lines, lines_of, part_of}
use Rattle.desk_base.specs.Reading.{Takes}
use Rattle.desk_base.specs.declared.line.Line.TheVariants.{Full, End}
use Rattle.desk_base.specs.declared.line.LineError.TheVariants as fails
use Rattle.desk_text.specs.Taken.{TakesLines}
use Rattle.desk_report.specs.ByLines.{IsDueBy}
use Rattle.desk_report.specs.Outcome.{RunEndsAs, NeverMisses, Report, Seen, Writes, of_sink, of_streams, reported_on}
use Rattle.desk_text.specs.Text.{is_end, refusal_line}
use Rattle.desk_report.specs.declared.status.Status.{Status}
use Rattle.desk_report.specs.declared.status.Status.TheVariants as is
use Rattle.desk_text.specs.declared.text.LineWhy.{LineWhy}
use Rattle.desk_text.specs.declared.text.LineWhy.TheVariants.{Long, Cut, Missing}
use Rattle.desk_text.proofs.TextSteps.{known_rest, no_rest}
use Rattle.desk_report.proofs.Writing.{at_sink, ends_as, no_read_fault, on_all}
use Rattle.desk_formula.specs.Arith.{ArithEnds, ArithReports, IsBehindLine, LineReports, refused_as}

module _ (budget : ℕ) (files : Files) where
  abbrev Says : Lines → Report → Type 0
  Says lines = ArithReports budget lines files

  -- at first a line is due
  due_first : IsDueBy Says []
  due_first = (refused_as files Missing, refl, refl)

  none_taken : (bytes pending : List ℕ) → pending ≡ bytes → length pending ≤ 256 → TakesLines (IsDueBy Says) bytes pending
  none_taken bytes pending is' few = record { lines = []; are_lines = All-nil IsLine; due = λ k below. absurd (omega (arith, below)); bytes = sym is'; few = few }

  -- and no second one
  due_so_far : (line : List ℕ) (k : ℕ) → k < 1 → IsDueBy Says (take k (line ∷ []))
  due_so_far line zero below = due_first
  due_so_far line (suc k) below = absurd (omega (arith, below))

  one_taken : (bytes : List ℕ) {line : List ℕ} (pending : List ℕ) → IsLine line → bytes ≡ line ++ 10 ∷ pending → length pending ≤ 256 → TakesLines (IsDueBy Says) bytes pending
  one_taken bytes {line} pending is_line is' few = record {
    lines = line ∷ [];
    are_lines = All-push IsLine [] line (All-nil IsLine) is_line;
    due = due_so_far line;
    bytes = is' ∙ sym (append_assoc line (10 ∷ []) pending) ∙ ap (λ b. b ++ pending) (sym (append-nil (line ++ 10 ∷ [])));
    few = few;
  }

  -- a part of a line is refused because it ends
  part_ends : (bytes : List ℕ) → (why : LineWhy) × Says (part_of bytes) (refused_as files why) × IsTrue (is_end why)
  part_ends [] = (Missing, refl, refl)
  part_ends (b ∷ bytes) = (Cut, refl, refl)

  module _ (line pending : List ℕ) (few : length pending ≤ 256) (left after written later : Option (List ℕ)) (reads reads_later writes writes_later : ℕ) where
    abbrev old : Seen
    old = of_streams files left written reads writes

    abbrev new : Seen
    new = of_streams files after later reads_later writes_later

    -- a whole line came, and the run ends as what answers it does
    pub line_ends : (len : ℕ) → Takes (Ok (Full len)) [] line pending left after → IsLine line → (status : Status)
        → RunEndsAs status (LineReports budget line files) (Unit {0}) NeverMisses (of_sink files written writes) (of_sink files later writes_later)
        → ArithEnds budget files status pending old new
    line_ends len took is_line status ends =
        let rest = unwrap_or after [] in
        let reports : Report → Type 0 = LineReports budget line files in
        let not_read = no_read_fault status reports (Unit {0}) NeverMisses (of_sink files written writes) (of_sink files later writes_later) refl refl ends in
        let same = ap lines_of (on_all status took.bytes rest not_read) ∙ took.reads rest in
        record {
          bytes = took.bytes;
          rest = rest;
          taken = took.taken;
          left = known_rest after;
          takes = one_taken took.bytes pending is_line took.keeps few;
          ends =
              ends_as status reports (Says (lines_of (reported_on status took.bytes rest))) (Unit {0}) (IsBehindLine took.bytes) NeverMisses NeverMisses old new
              (λ report right. subst (λ (lines : Lines). Says lines report) (sym same) right)
              (λ some. record { line = line; pending = pending; is_line = is_line; bytes = took.keeps; few = few })
              (λ keeping never. never)
              (at_sink files old new refl refl status reports (Unit {0}) ends);
        }

    -- no whole line came: all that was taken is held, and the first line is refused
    refused : (bytes rest : List ℕ) (why : LineWhy) → Consumes left after bytes → IfSome after (λ told. told ≡ rest)
        → pending ≡ bytes → Says (lines_of (bytes ++ rest)) (refused_as files why)
        → Writes [] (refusal_line 1 why) written later (HasRisen writes writes_later) → ArithEnds budget files is.Text pending old new
    refused bytes rest why took told is' says wrote = record {
      bytes = bytes;
      rest = rest;
      taken = took;
      left = told;
      takes = none_taken bytes pending is' few;
      ends = (refused_as files why, says, record { reported = refl; written = wrote; files = refl });
    }

    pub missing_ends : Takes (Ok End) [] line pending left after → Writes [] (refusal_line 1 Missing) written later (HasRisen writes writes_later) → ArithEnds budget files is.Text pending old new
    missing_ends took wrote =
        let P : Lines → Type 0 = λ l. Says l (refused_as files Missing) in
        refused took.bytes [] Missing took.taken (no_rest after took.reads.0) took.keeps (subst P (sym (ap lines_of (append-nil took.bytes) ∙ took.reads.1)) refl) wrote

    pub cut_ends : Takes (Err fails.Cut) [] line pending left after → Writes [] (refusal_line 1 Cut) written later (HasRisen writes writes_later) → ArithEnds budget files is.Text pending old new
    cut_ends took wrote =
        let P : Lines → Type 0 = λ l. Says l (refused_as files Cut) in
        refused took.bytes [] Cut took.taken (no_rest after took.reads.0) took.keeps (subst P (sym (ap lines_of (append-nil took.bytes) ∙ took.reads.1)) refl) wrote

    pub long_ends : Takes (Err fails.TooLong) [] line pending left after
        → Writes [] (refusal_line 1 Long) written later (HasRisen writes writes_later)
        → ArithEnds budget files is.Text pending old new
    long_ends took wrote =
        let P : Lines → Type 0 = λ l. Says l (refused_as files Long) in
        let rest = unwrap_or after [] in
        refused took.bytes rest Long took.taken (known_rest after) took.keeps (subst P (sym (took.reads rest)) refl) wrote

    -- the source has failed within the line
    pub fault_ends : Takes (Err fails.Read) [] line pending left after → HasRisen reads reads_later
        → Writes [] (codes "read fault\n") written later (HasRisen writes writes_later) → ArithEnds budget files is.ReadFault pending old new
    fault_ends took failed wrote =
        let part = part_ends took.bytes in
        let P : Lines → Type 0 = λ l. Says l (refused_as files part.0) in
        record {
          bytes = took.bytes;
          rest = unwrap_or after [];
          taken = took.taken;
          left = known_rest after;
          takes = none_taken took.bytes pending took.keeps few;
          ends = (refused_as files part.0, subst P (sym took.reads) part.1, record { failed = failed; short = part.2; written = wrote; files = refl });
        }
