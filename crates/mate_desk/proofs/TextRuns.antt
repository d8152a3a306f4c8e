-- How a run ends of a command that reads lines behind a text, from what was read of its text and how the command does.
use Rattle.std.proofs.Common.{◌≡◌, ℕ, zero, suc, ◌+◌, ◌-◌, ◌<◌, ◌≤◌, List, [], ◌∷◌, ◌++◌, length, take, Option, Ok, inl, inr, refl, sym, ◌∙◌, ap, subst, append_assoc, length-append, arith}
use Rattle.std.proofs.KnownBytes.{Consumes-trans}
use Rattle.std.proofs.lemmas.List.{append-nil, take-append-le}
use Rattle.std.proofs.lemmas.List.Elements.{All-append}
use Rattle.desk_base.specs.Faults.{HasRisen}
use Rattle.desk_base.specs.Files.{Files}
use Rattle.desk_base.specs.Lines.{IsLine, Lines, ended, lines_of}
use Rattle.game_rules.specs.Game.{SoundWithKings}
use Rattle.chess_game.proofs.UnsoundnessLemmas.{number_cases}
use Rattle.chess_text.specs.PositionText.{text_of_lines}
use Rattle.desk_text.specs.Taken.{TakesLines}
use Rattle.desk_args.specs.Order.{Ordered}
use Rattle.desk_report.specs.Outcome.{NeverMisses, Report, Seen, of_streams, reported_on}
use Rattle.desk_report.specs.ByLines.{EndsByLines}
use Rattle.mate_desk.specs.Command.{IsBehindText, OfText}
use Rattle.mate_desk.specs.Report.{MayLackMemory, MayMissShelf, OrderMayLack, Reports, ReportsOrder}
use Rattle.mate_desk.specs.Run.{Given, IsLineDue, RunEnds}
use Rattle.desk_text.specs.Text.{TextAt, whole}
use Rattle.desk_text.specs.TextRead.{TextRead}
use Rattle.desk_args.specs.declared.order.Order.{Order}
use Rattle.desk_text.specs.declared.problem.Problem.{Problem}
use Rattle.desk_report.specs.declared.status.Status.{Status}
use Rattle.desk_report.specs.declared.status.Status.TheVariants as is
use Rattle.desk_files.proofs.Shelves.{files_of, known_files}
use Rattle.mate_desk.proofs.Reporting.{line_due, not_usage, takes_lines}
use Rattle.mate_desk.proofs.Rows.{order_status, refuses_as}
use Rattle.desk_report.proofs.Writing.{at_files, ends_as, unchanged}

take_behind : (a b : List (List ℕ)) (k j : ℕ) → k ≡ length a + j → take k (a ++ b) ≡ a ++ take j b
take_behind [] b k j is = ap (λ n. take n b) (omega (arith, is))
take_behind (x ∷ a) b zero j is = absurd (omega (arith, is))
take_behind (x ∷ a) b (suc k) j is = ap (λ l. x ∷ l) (take_behind a b k j (omega (arith, is)))

text_append : (a b : List (List ℕ)) → text_of_lines (a ++ b) ≡ text_of_lines a ++ text_of_lines b
text_append [] b = refl
text_append (l ∷ a) b = ap (λ bytes. (l ++ 10 ∷ []) ++ bytes) (text_append a b) ∙ sym (append_assoc (l ++ 10 ∷ []) (text_of_lines a) (text_of_lines b))

-- a report on bytes behind others is one on all of them
in_front : (status : Status) (front taken rest : List ℕ) → front ++ reported_on status taken rest ≡ reported_on status (front ++ taken) rest
in_front is.ReadFault front taken rest = refl
in_front is.Usage front taken rest = sym (append_assoc front taken rest)
in_front is.Done front taken rest = sym (append_assoc front taken rest)
in_front is.Text front taken rest = sym (append_assoc front taken rest)
in_front is.Unsound front taken rest = sym (append_assoc front taken rest)
in_front is.WriteFault front taken rest = sym (append_assoc front taken rest)
in_front is.ShelfFault front taken rest = sym (append_assoc front taken rest)
in_front is.Budget front taken rest = sym (append_assoc front taken rest)
in_front is.Wide front taken rest = sym (append_assoc front taken rest)
in_front is.Memory front taken rest = sym (append_assoc front taken rest)
in_front is.File front taken rest = sym (append_assoc front taken rest)
in_front is.Ended front taken rest = sym (append_assoc front taken rest)
in_front is.TooMany front taken rest = sym (append_assoc front taken rest)

module _ (words : List (List ℕ)) (old new : Seen) (same : new.files ≡ old.files) (order : Order) (ordered : Ordered words (Ok order))
    (says : Problem → Lines → Files → Report → Type 0) (takes : Problem → Type 0)
    (more : (bytes : List ℕ) (files : Files) (report : Report) → OfText (λ p rest. says p rest files) files bytes report → ReportsOrder order words bytes files report)
    (lacks : (taken : List ℕ) → IsBehindText takes taken → OrderMayLack order taken)
    (held pending : List ℕ) (mid : Option (List ℕ)) (reads : ℕ) (later : old.read_faults ≤ reads) (problem : Problem)
    (t : TextRead (Ok problem) held old.left mid) (sound : SoundWithKings problem.position) where
  abbrev files : Files
  files = files_of old.files

  abbrev before : Seen
  before = of_streams files mid old.written reads old.write_faults

  abbrev after : Seen
  after = of_streams files new.left new.written new.read_faults new.write_faults

  rises : HasRisen reads new.read_faults → HasRisen old.read_faults new.read_faults
  rises risen = omega (arith, later, risen)

  -- what is reported behind the text is reported of the whole input
  behind : (later : List ℕ) (report : Report) → says problem (lines_of later) files report → Reports words (text_of_lines t.takes.lines ++ later) files report
  behind later report right = (Ok order, ordered, more (text_of_lines t.takes.lines ++ later) files report (whole problem (lines_of later), t.reads later, inr (sound, right)))

  module _ (status : Status) (lack : List ℕ → Type 0) (lacks_at : (bytes : List ℕ) → lack bytes → takes problem × (bytes ≡ []))
      (p : EndsByLines (λ lines. says problem lines files) lack (λ bytes. NeverMisses) status held pending before after) where
    abbrev all : List (List ℕ)
    all = t.takes.lines ++ p.takes.lines

    abbrev taken : List ℕ
    taken = t.bytes ++ p.bytes

    -- the bytes taken are the lines of the text and those behind them
    taken_are : taken ≡ text_of_lines t.takes.lines ++ (held ++ p.bytes)
    taken_are = ap (λ b. b ++ p.bytes) t.takes.bytes ∙ append_assoc (text_of_lines t.takes.lines) held p.bytes

    line_was_due : (k : ℕ) → k < length all → IsLineDue words files (take k all)
    line_was_due k below = elim (number_cases k (length t.takes.lines)) [
      | inl less ↦
          subst (IsLineDue words files) (sym (take-append-le k t.takes.lines p.takes.lines (omega (arith, less))))
          (line_due words old new same order ordered (refuses_as says (ReportsOrder order words) more) held (take k t.takes.lines) (t.takes.due k less))
      | inr (inl equal) ↦ later_due (omega (arith, equal))
      | inr (inr more) ↦ later_due (omega (arith, more))
    ]
      where
        later_due : length t.takes.lines ≤ k → IsLineDue words files (take k all)
        later_due le =
            let j = k - length t.takes.lines in
            let due = p.takes.due j (omega (arith, below, le, length-append t.takes.lines p.takes.lines)) in
            let P : List ℕ → Type 0 = λ b. Reports words b files due.0 in
            let is : text_of_lines (take k all) ≡ text_of_lines t.takes.lines ++ text_of_lines (take j p.takes.lines) =
            ap text_of_lines (take_behind t.takes.lines p.takes.lines k j (omega (arith, le))) ∙ text_append t.takes.lines (take j p.takes.lines) in
            (due.0, subst P (sym is) (behind (text_of_lines (take j p.takes.lines)) due.0 due.1), due.2)

    takes_all : TakesLines (IsLineDue words files) taken pending
    takes_all = record {
      lines = all;
      are_lines = All-append IsLine t.takes.lines p.takes.lines t.takes.are_lines p.takes.are_lines;
      due = line_was_due;
      bytes =
          taken_are ∙ ap (λ b. text_of_lines t.takes.lines ++ b) p.takes.bytes ∙ sym (append_assoc (text_of_lines t.takes.lines) (text_of_lines p.takes.lines) pending)
          ∙ ap (λ b. b ++ pending) (sym (text_append t.takes.lines p.takes.lines));
      few = p.takes.few;
    }

    abbrev given : Given old new
    given = record {
      taken = taken;
      rest = p.rest;
      files = files;
      consumed = Consumes-trans old.left mid new.left t.bytes p.bytes t.taken p.taken;
      left = p.left;
      kept = known_files old.files;
    }

    -- the report on the bytes that it is on
    all_says : (report : Report) → says problem (lines_of (reported_on status (held ++ p.bytes) p.rest)) files report → Reports words (reported_on status taken p.rest) files report
    all_says report right =
        let P : List ℕ → Type 0 = λ b. Reports words b files report in
        let is : text_of_lines t.takes.lines ++ reported_on status (held ++ p.bytes) p.rest ≡ reported_on status taken p.rest =
        in_front status (text_of_lines t.takes.lines) (held ++ p.bytes) p.rest ∙ ap (λ b. reported_on status b p.rest) (sym taken_are) in
        subst P is (behind (reported_on status (held ++ p.bytes) p.rest) report right)

    may_lack : lack p.bytes → MayLackMemory words taken
    may_lack some =
        let at = lacks_at p.bytes some in
        let P : List ℕ → Type 0 = λ b. TextAt b (whole problem ended) in (
          order,
          ordered,
          lacks taken (record {
            problem = problem;
            sound = sound;
            holds = at.0;
            front = text_of_lines t.takes.lines;
            pending = held;
            text = subst P (append-nil (text_of_lines t.takes.lines)) (t.reads []);
            bytes = ap (λ b. t.bytes ++ b) at.1 ∙ append-nil t.bytes ∙ t.takes.bytes;
            few = t.takes.few;
          }),
        )

    -- the run ends as the command does
    pub replies_end : RunEnds words status old new
    replies_end =
        let on = reported_on status (held ++ p.bytes) p.rest in
        let reports : Report → Type 0 = says problem (lines_of on) files in
        record {
          given = given;
          takes =
              takes_lines words files status taken pending
              (not_usage status reports (lack p.bytes) NeverMisses before after
              (λ report right. order_status order words (text_of_lines t.takes.lines ++ on) files report
              (more (text_of_lines t.takes.lines ++ on) files report (whole problem (lines_of on), t.reads on, inr (sound, right)))) p.ends)
              takes_all;
          ends =
              ends_as status reports (λ report. Reports words (reported_on status taken p.rest) files report) (lack p.bytes)
              (MayLackMemory words taken) NeverMisses (MayMissShelf words taken files) old new
              all_says may_lack (λ keeping never. absurd never)
              (at_files files old new (known_files old.files) (unchanged old.files new.files same) mid new.left reads new.read_faults rises status reports (lack p.bytes) p.ends);
        }
