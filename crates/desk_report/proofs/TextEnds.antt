-- How a command ends that reads a text, from what was read of it. Crates above cite these lemmas.
use Rattle.std.proofs.Common.{◌≡◌, ℕ, ◌+◌, List, [], ◌++◌, length, take, Option, Ok, Err, false, inl, inr, refl, sym, ◌∙◌, ap, subst, append_assoc}
use Rattle.std.specs.Prelude.{codes}
use Rattle.std.proofs.lemmas.List.{append-nil}
use Rattle.desk_base.specs.Faults.{HasRisen}
use Rattle.desk_base.specs.Files.{Files}
use Rattle.desk_base.specs.Lines.{Lines, ended, lines_of}
use Rattle.game_rules.specs.Game.{SoundWithKings}
use Rattle.chess_game.specs.Unsoundness.{IsFirstUnsoundness}
use Rattle.chess_game.specs.declared.unsoundness.Unsound.{Unsound}
use Rattle.chess_text.specs.PositionText.{text_of_lines}
use Rattle.desk_text.specs.Taken.{TakesLines}
use Rattle.desk_text.specs.Text.{IsTextOf, Reading, is_end, refusal_line, refused, whole}
use Rattle.desk_text.specs.TextRead.{IsMissingOf, IsShortOf, TextReadOf}
use Rattle.desk_text.specs.declared.problem.Problem.{Problem}
use Rattle.desk_text.specs.declared.text.LineWhy.{LineWhy}
use Rattle.desk_text.specs.declared.text.LineWhy.TheVariants.{Missing}
use Rattle.desk_text.specs.declared.text.TextEnd.TheVariants.{Fault, Refused}
use Rattle.desk_report.specs.ByLines.{EndsByLines, IsDueBy}
use Rattle.desk_report.specs.FaultLines.{unsound_line}
use Rattle.desk_report.specs.OfText.{IsBehindTextOf, OfLines}
use Rattle.desk_report.specs.Outcome.{NeverMisses, Report, RunEndsAs, Seen, Writes, of_sink, of_streams, refusal_as, reported_on}
use Rattle.desk_report.specs.declared.status.Status.{Status}
use Rattle.desk_report.specs.declared.status.Status.TheVariants as is
use Rattle.desk_report.proofs.Writing.{at_sink, ends_as, no_read_fault, on_all}

module _ (r : Reading Problem) (says : Problem → Lines → Report → Type 0) (files : Files) where
  abbrev Says : Lines → Report → Type 0
  Says lines = OfLines r says files lines

  abbrev refused_as : ℕ → LineWhy → Report
  refused_as number why = refusal_as files is.Text (refusal_line number why) (is_end why)

  refused_here : (lines : Lines) (number : ℕ) (why : LineWhy) → IsTextOf r lines (refused number why) → Says lines (refused_as number why)
  refused_here lines number why at = (refused number why, at, refl)

  -- each line of the text was due
  line_due : (before : List (List ℕ)) → IsMissingOf r before → IsDueBy Says before
  line_due before at =
      let number = length before + 1 in
      (refused_as number Missing, refused_here (lines_of (text_of_lines before)) number Missing at, refl)

  lines_due : {bytes pending : List ℕ} → TakesLines (IsMissingOf r) bytes pending → TakesLines (IsDueBy Says) bytes pending
  lines_due {bytes} {pending} t = record {
    lines = t.lines;
    are_lines = t.are_lines;
    due = λ k below. line_due (take k t.lines) (t.due k below);
    bytes = t.bytes;
    few = t.few;
  }

  module _ (may_lack : List ℕ → Type 0) (pending : List ℕ) (left after written later : Option (List ℕ)) (reads reads_later writes writes_later : ℕ) where
    abbrev old : Seen
    old = of_streams files left written reads writes

    abbrev new : Seen
    new = of_streams files after later reads_later writes_later

    abbrev Ends : Status → Type 0
    Ends status = EndsByLines Says may_lack (λ bytes. NeverMisses) status [] pending old new

    -- a line is refused
    pub refused_ends : (number : ℕ) (why : LineWhy) → TextReadOf r (Err (Refused number why)) pending left after
        → Writes [] (refusal_line number why) written later (HasRisen writes writes_later) → Ends is.Text
    refused_ends number why t wrote =
        let P : List ℕ → Type 0 = λ b. IsTextOf r (lines_of (b ++ t.rest)) (refused number why) in
        record {
          bytes = t.bytes;
          rest = t.rest;
          taken = t.taken;
          left = t.left;
          takes = lines_due t.takes;
          ends = (
            refused_as number why,
            refused_here (lines_of (t.bytes ++ t.rest)) number why (subst P (sym t.takes.bytes) t.reads),
            record { reported = refl; written = wrote; files = refl },
          );
        }

    -- the source has failed within the text
    pub fault_ends : TextReadOf r (Err Fault) pending left after → HasRisen reads reads_later
        → Writes [] (codes "read fault\n") written later (HasRisen writes writes_later) → Ends is.ReadFault
    fault_ends t failed wrote =
        let P : List ℕ → Type 0 = λ b. IsShortOf r b in
        let short : IsShortOf r t.bytes = subst P (sym t.takes.bytes) t.reads in
        record {
          bytes = t.bytes;
          rest = t.rest;
          taken = t.taken;
          left = t.left;
          takes = lines_due t.takes;
          ends = (
            refused_as short.number short.why,
            refused_here (lines_of t.bytes) short.number short.why short.text,
            record { failed = failed; short = short.short; written = wrote; files = refl },
          );
        }

    module _ (problem : Problem) (t : TextReadOf r (Ok problem) pending left after) where
      -- the text is whole, and there is more behind it
      is_whole : IsTextOf r (lines_of (t.bytes ++ t.rest)) (whole problem (lines_of (pending ++ t.rest)))
      is_whole =
          let P : List ℕ → Type 0 = λ b. IsTextOf r (lines_of b) (whole problem (lines_of (pending ++ t.rest))) in
          let same : text_of_lines t.takes.lines ++ (pending ++ t.rest) ≡ t.bytes ++ t.rest =
          sym (append_assoc (text_of_lines t.takes.lines) pending t.rest) ∙ ap (λ b. b ++ t.rest) (sym t.takes.bytes) in
          subst P same (t.reads (pending ++ t.rest))

      pub behind_text : (Holds : Problem → Type 0) → SoundWithKings problem.position → Holds problem → IsBehindTextOf r Holds t.bytes
      behind_text Holds sound holds =
          let P : List ℕ → Type 0 = λ b. IsTextOf r (lines_of b) (whole problem ended) in
          record {
            problem = problem;
            sound = sound;
            holds = holds;
            front = text_of_lines t.takes.lines;
            pending = pending;
            text = subst P (append-nil (text_of_lines t.takes.lines)) (t.reads []);
            bytes = t.takes.bytes;
            few = t.takes.few;
          }

      -- its position is not sound
      pub unsound_ends : (why : Unsound) → IsFirstUnsoundness problem.position why
          → Writes [] (unsound_line why) written later (HasRisen writes writes_later) → Ends is.Unsound
      unsound_ends why fault wrote = record {
        bytes = t.bytes;
        rest = t.rest;
        taken = t.taken;
        left = t.left;
        takes = lines_due t.takes;
        ends = (
          refusal_as files is.Unsound (unsound_line why) false,
          (whole problem (lines_of (pending ++ t.rest)), is_whole, inl (why, fault, refl)),
          record { reported = refl; written = wrote; files = refl },
        );
      }

      -- the command ends as what answers of the problem does, which has the sink alone
      pub sound_ends : SoundWithKings problem.position → (status : Status) (lack : Type 0) → (lack → may_lack t.bytes)
          → RunEndsAs status (says problem (lines_of (pending ++ t.rest))) lack NeverMisses (of_sink files written writes) (of_sink files later writes_later) → Ends status
      sound_ends sound status lack lacks ends =
          let reports : Report → Type 0 = says problem (lines_of (pending ++ t.rest)) in
          let not_read = no_read_fault status reports lack NeverMisses (of_sink files written writes) (of_sink files later writes_later) refl refl ends in
          let same = on_all status t.bytes t.rest not_read in
          record {
            bytes = t.bytes;
            rest = t.rest;
            taken = t.taken;
            left = t.left;
            takes = lines_due t.takes;
            ends =
                ends_as status reports (Says (lines_of (reported_on status t.bytes t.rest))) lack (may_lack t.bytes) NeverMisses NeverMisses old new
                (λ report right. subst (λ (b : List ℕ). Says (lines_of b) report) (sym same) (whole problem (lines_of (pending ++ t.rest)), is_whole, inr (sound, right)))
                lacks (λ keeping never. never) (at_sink files old new refl refl status reports lack ends);
          }
