-- How a run ends, from how its parts do.
use Rattle.std.proofs.Common.{◌≡◌, ◌≢◌, ◌+◌, ◌++◌, ℕ, List, [], length, take, Option, Some, None, IfSome, Result, Ok, Err, false, inr, refl, sym, ap, ◌∙◌, subst, append_assoc, arith}
use Rattle.std.specs.Prelude.{IsSomeAnd, codes, slice_get, unwrap_or}
use Rattle.std.specs.Io.KnownBytes.{Consumes}
use Rattle.std.proofs.KnownBytes.{Consumes-nil}
use Rattle.std.proofs.lemmas.List.{append-nil}
use Rattle.desk_base.specs.Faults.{HasRisen}
use Rattle.desk_base.specs.Files.{Files, Go, no_files}
use Rattle.desk_base.specs.Lines.{Lines, ended, lines_of}
use Rattle.game_rules.specs.Game.{SoundWithKings}
use Rattle.chess_game.specs.Unsoundness.{IsFirstUnsoundness}
use Rattle.chess_game.specs.declared.unsoundness.Unsound.{Unsound}
use Rattle.chess_text.specs.PositionText.{text_of_lines}
use Rattle.desk_text.specs.Taken.{TakesLines}
use Rattle.desk_files.specs.Check.{CheckReports}
use Rattle.desk_report.specs.FaultLines.{unsound_line}
use Rattle.desk_files.specs.FileClaim.{MissesFetch, OnFiles}
use Rattle.desk_files.specs.Keep.{HasFileToKeep, KeepReports}
use Rattle.desk_files.specs.Keeping.{MissesKeep}
use Rattle.desk_files.specs.Migrate.{MigrateReports, MissesMigrate}
use Rattle.desk_args.specs.Order.{IsOfFiles, Ordered, name_in, usage_line}
use Rattle.desk_report.specs.Outcome.{RunEndsAs, Leaves, KeepsFiles, NeverMisses, Report, Seen, Writes, WriteFailed, of_shelf, of_sink, of_streams, refusal_as, reported_on}
use Rattle.desk_report.specs.ByLines.{EndsByLines}
use Rattle.mate_desk.specs.Command.{IsBehindText, OfName, OfText}
use Rattle.mate_desk.specs.Report.{MayLackMemory, MayMissShelf, OrderMayLack, Reports, ReportsOrder, TakesMemory}
use Rattle.desk_games.specs.Resume.{ResumeEnds, ResumeReports}
use Rattle.mate_desk.specs.Run.{Given, IsLineDue, RunEnds, Takes}
use Rattle.desk_text.specs.Text.{TextAt, whole, refused, is_end, refusal_line}
use Rattle.desk_text.specs.TextRead.{IsMissing, IsShort, TextRead}
use Rattle.desk_verdict.specs.Verdict.{HasNothingToPlay}
use Rattle.desk_args.specs.declared.order.Order.{Order}
use Rattle.desk_args.specs.declared.order.Order.TheVariants.{Keep, Check, Resume, Migrate}
use Rattle.desk_args.specs.declared.order.UsageWhy.{UsageWhy}
use Rattle.desk_text.specs.declared.problem.Problem.{Problem}
use Rattle.desk_report.specs.declared.status.Status.{Status}
use Rattle.desk_report.specs.declared.status.Status.TheVariants as is
use Rattle.desk_text.specs.declared.text.LineWhy.{LineWhy}
use Rattle.desk_text.specs.declared.text.LineWhy.TheVariants.{Missing}
use Rattle.desk_text.specs.declared.text.TextEnd.{TextEnd}
use Rattle.desk_text.specs.declared.text.TextEnd.TheVariants.{Fault, Refused}
use Rattle.desk_files.proofs.Rows.{keep_row}
use Rattle.desk_games.proofs.Rows.{resume_row}
use Rattle.desk_report.proofs.One.{IsNotUsage}
use Rattle.mate_desk.proofs.Rows.{RefusesText, order_status, refuses_as}
use Rattle.desk_files.proofs.Shelves.{files_of, known_files, same_kept}
use Rattle.desk_text.proofs.TextSteps.{known_rest}
use Rattle.desk_report.proofs.Writing.{at_files, at_sink, ends_as, no_read_fault, on_all, unchanged, with_source}

-- where nothing that is reported has the status of words that are no order, the run has not
pub not_usage : (status : Status) (reports : Report → Type 0) (may_lack : Type 0) (may_miss : Option (List ℕ) → Type 0) (old new : Seen)
    → ((report : Report) → reports report → IsNotUsage report)
    → RunEndsAs status reports may_lack may_miss old new → status ≢ is.Usage
not_usage status reports may_lack may_miss old new not ends same =
    let P : Status → Type 0 = λ s. RunEndsAs s reports may_lack may_miss old new in
    let ended : RunEndsAs is.Usage reports may_lack may_miss old new = subst P same ends in
    not ended.0 ended.1 (sym ended.2.reported)

left_files : (told : Option Files) → Go told told (λ before after. after ≡ files_of told)
left_files None = tt
left_files (Some files) = refl

-- no line is taken
no_lines : (IsDue : List (List ℕ) → Type 0) → TakesLines IsDue [] []
no_lines IsDue = record { lines = []; are_lines = λ k d below. absurd (omega arith); due = λ k below. absurd (omega arith); bytes = refl; few = omega arith }

takes_any : (words : List (List ℕ)) (files : Files) (status : Status) (taken pending : List ℕ) → (status ≡ is.Usage → taken ≡ [])
    → TakesLines (IsLineDue words files) taken pending → Takes words files status taken
takes_any words files is.Usage taken pending none t = none refl
takes_any words files is.Done taken pending none t = (pending, t)
takes_any words files is.Text taken pending none t = (pending, t)
takes_any words files is.Unsound taken pending none t = (pending, t)
takes_any words files is.ReadFault taken pending none t = (pending, t)
takes_any words files is.WriteFault taken pending none t = (pending, t)
takes_any words files is.ShelfFault taken pending none t = (pending, t)
takes_any words files is.Budget taken pending none t = (pending, t)
takes_any words files is.Wide taken pending none t = (pending, t)
takes_any words files is.Memory taken pending none t = (pending, t)
takes_any words files is.File taken pending none t = (pending, t)
takes_any words files is.Ended taken pending none t = (pending, t)
takes_any words files is.TooMany taken pending none t = (pending, t)

takes_nothing : (words : List (List ℕ)) (files : Files) (status : Status) → Takes words files status []
takes_nothing words files status = takes_any words files status [] [] (λ usage. refl) (no_lines (IsLineDue words files))

-- words that are an order take the lines that are due
pub takes_lines : (words : List (List ℕ)) (files : Files) (status : Status) (taken pending : List ℕ) → status ≢ is.Usage
    → TakesLines (IsLineDue words files) taken pending → Takes words files status taken
takes_lines words files status taken pending not t = takes_any words files status taken pending (λ usage. absurd (not usage)) t

-- so a run of an order ends whose source has not failed
pub run_ends : (words : List (List ℕ)) (status : Status) (old new : Seen) (given : Given old new) (pending : List ℕ)
    → TakesLines (IsLineDue words given.files) given.taken pending → status ≢ is.Usage → status ≢ is.ReadFault
    → RunEndsAs status (λ report. Reports words (given.taken ++ given.rest) given.files report) (MayLackMemory words given.taken)
    (MayMissShelf words given.taken given.files) old new
    → RunEnds words status old new
run_ends words status old new given pending takes no_usage no_fault ends =
    let P : List ℕ → Type 0 = λ b. RunEndsAs status (λ report. Reports words b given.files report) (MayLackMemory words given.taken) (MayMissShelf words given.taken given.files) old new in
    record {
      given = given;
      takes = takes_lines words given.files status given.taken pending no_usage takes;
      ends = subst P (sym (on_all status given.taken given.rest no_fault)) ends;
    }

module _ (words : List (List ℕ)) (old new : Seen) (same : new.files ≡ old.files) where
  leaves : Leaves (files_of old.files) old new
  leaves = let P : Option Files → Type 0 = λ f. Go old.files f (λ before after. after ≡ files_of old.files) in subst P (sym same) (left_files old.files)

  keeps : KeepsFiles old new
  keeps = let P : Option Files → Type 0 = λ f. Go old.files f (λ before after. after ≡ before) in subst P (sym same) (same_kept old.files)

  -- nothing was taken
  abbrev given_nothing : new.left ≡ old.left → Given old new
  given_nothing left =
      let P : Option (List ℕ) → Type 0 = λ l. IfSome l (λ told. told ≡ unwrap_or old.left []) in
      let C : Option (List ℕ) → Type 0 = λ l. Consumes old.left l [] in
      record {
        taken = [];
        rest = unwrap_or old.left [];
        files = files_of old.files;
        consumed = subst C (sym left) (Consumes-nil old.left);
        left = subst P (sym left) (known_rest old.left);
        kept = known_files old.files;
      }

  -- the words are no order
  pub usage_ends : (why : UsageWhy) → Ordered words (Err why) → new.left ≡ old.left
      → Writes [] (usage_line why) old.written new.written (WriteFailed old new) → RunEnds words is.Usage old new
  usage_ends why ordered left wrote = record {
    given = given_nothing left;
    takes = refl;
    ends = (refusal_as (files_of old.files) is.Usage (usage_line why) false, (Err why, ordered, refl), record { reported = refl; written = wrote; files = leaves });
  }

  -- a command that reads nothing, and has the sink alone
  pub words_ends : (order : Order) (says : Files → Report → Type 0) (some : Type 0) (status : Status) → Ordered words (Ok order) → new.left ≡ old.left
      → ((bytes : List ℕ) (files : Files) (report : Report) → says files report → ReportsOrder order words bytes files report) → (some → OrderMayLack order [])
      → ((files : Files) → RunEndsAs status (says files) some NeverMisses (of_sink files old.written old.write_faults) (of_sink files new.written new.write_faults))
      → RunEnds words status old new
  words_ends order says some status ordered left more lacks ends =
      let files = files_of old.files in
      let bytes = reported_on status [] (unwrap_or old.left []) in
      record {
        given = given_nothing left;
        takes = takes_nothing words files status;
        ends =
            ends_as status (says files) (λ report. Reports words bytes files report) some (MayLackMemory words []) NeverMisses (MayMissShelf words [] files) old new
            (λ report right. (Ok order, ordered, more bytes files report right)) (λ is_some. (order, ordered, lacks is_some)) (λ keeping never. absurd never)
            (at_sink files old new (known_files old.files) (unchanged old.files new.files same) status (says files) some (ends files));
      }

  module _ (order : Order) (ordered : Ordered words (Ok order)) (refuses : RefusesText (ReportsOrder order words)) (pending : List ℕ) where
    abbrev files : Files
    files = files_of old.files

    abbrev given_text : (answer : Result Problem TextEnd) → TextRead answer pending old.left new.left → Given old new
    given_text answer t = record { taken = t.bytes; rest = t.rest; files = files; consumed = t.taken; left = t.left; kept = known_files old.files }

    -- each line of the text was due
    pub line_due : (before : List (List ℕ)) → IsMissing before → IsLineDue words files before
    line_due before at =
        let number = length before + 1 in
        (refusal_as files is.Text (refusal_line number Missing) (is_end Missing), (Ok order, ordered, refuses.refused (text_of_lines before) files number Missing at), refl)

    lines_due : {bytes : List ℕ} → TakesLines IsMissing bytes pending → TakesLines (IsLineDue words files) bytes pending
    lines_due {bytes} t = record {
      lines = t.lines;
      are_lines = t.are_lines;
      due = λ k below. line_due (take k t.lines) (t.due k below);
      bytes = t.bytes;
      few = t.few;
    }

    pub refused_ends : (number : ℕ) (why : LineWhy) → TextRead (Err (Refused number why)) pending old.left new.left
        → Writes [] (refusal_line number why) old.written new.written (WriteFailed old new) → RunEnds words is.Text old new
    refused_ends number why t wrote =
        let P : List ℕ → Type 0 = λ b. TextAt (b ++ t.rest) (refused number why) in
        record {
          given = given_text (Err (Refused number why)) t;
          takes = (pending, lines_due t.takes);
          ends = (
            refusal_as files is.Text (refusal_line number why) (is_end why),
            (Ok order, ordered, refuses.refused (t.bytes ++ t.rest) files number why (subst P (sym t.takes.bytes) t.reads)),
            record { reported = refl; written = wrote; files = leaves },
          );
        }

    -- the source has failed within the text
    pub fault_ends : TextRead (Err Fault) pending old.left new.left → HasRisen old.read_faults new.read_faults
        → Writes [] (codes "read fault\n") old.written new.written (WriteFailed old new) → RunEnds words is.ReadFault old new
    fault_ends t failed wrote =
        let short : IsShort t.bytes = subst IsShort (sym t.takes.bytes) t.reads in
        record {
          given = given_text (Err Fault) t;
          takes = (pending, lines_due t.takes);
          ends = (
            refusal_as files is.Text (refusal_line short.number short.why) (is_end short.why),
            (Ok order, ordered, refuses.refused t.bytes files short.number short.why short.text),
            record { failed = failed; short = short.short; written = wrote; files = keeps },
          );
        }

    module _ (problem : Problem) (t : TextRead (Ok problem) pending old.left new.left) where
      -- the text is whole, and there is more behind it
      is_whole : TextAt (t.bytes ++ t.rest) (whole problem (lines_of (pending ++ t.rest)))
      is_whole =
          let P : List ℕ → Type 0 = λ b. TextAt b (whole problem (lines_of (pending ++ t.rest))) in
          let same : text_of_lines t.takes.lines ++ (pending ++ t.rest) ≡ t.bytes ++ t.rest =
          sym (append_assoc (text_of_lines t.takes.lines) pending t.rest) ∙ ap (λ b. b ++ t.rest) (sym t.takes.bytes) in
          subst P same (t.reads (pending ++ t.rest))

      pub of_problem : (says : Problem → Lines → Report → Type 0) → SoundWithKings problem.position → (report : Report)
          → says problem (lines_of (pending ++ t.rest)) report → OfText says files (t.bytes ++ t.rest) report
      of_problem says sound report right = (whole problem (lines_of (pending ++ t.rest)), is_whole, inr (sound, right))

      pub behind_text : (Holds : Problem → Type 0) → SoundWithKings problem.position → Holds problem → IsBehindText Holds t.bytes
      behind_text Holds sound holds =
          let P : List ℕ → Type 0 = λ b. TextAt b (whole problem ended) in
          record {
            problem = problem;
            sound = sound;
            holds = holds;
            front = text_of_lines t.takes.lines;
            pending = pending;
            text = subst P (append-nil (text_of_lines t.takes.lines)) (t.reads []);
            bytes = t.takes.bytes;
            few = t.takes.few;
          }

      pub unsound_ends : {why : Unsound} → IsFirstUnsoundness problem.position why → Writes [] (unsound_line why) old.written new.written (WriteFailed old new) → RunEnds words is.Unsound old new
      unsound_ends {why} fault wrote = record {
        given = given_text (Ok problem) t;
        takes = (pending, lines_due t.takes);
        ends = (
          refusal_as files is.Unsound (unsound_line why) false,
          (Ok order, ordered, refuses.unsound (t.bytes ++ t.rest) files problem (lines_of (pending ++ t.rest)) why is_whole fault),
          record { reported = refl; written = wrote; files = leaves },
        );
      }

      -- the run ends as its command does, which has the sink alone
      pub command_ends : (status : Status) (reports : Report → Type 0) (may_lack : Type 0)
          → ((report : Report) → reports report → ReportsOrder order words (t.bytes ++ t.rest) files report) → (may_lack → OrderMayLack order t.bytes)
          → RunEndsAs status reports may_lack NeverMisses (of_sink files old.written old.write_faults) (of_sink files new.written new.write_faults) → RunEnds words status old new
      command_ends status reports may_lack says lacks ends =
          run_ends words status old new (given_text (Ok problem) t) pending (lines_due t.takes)
          (not_usage status reports may_lack NeverMisses (of_sink files old.written old.write_faults) (of_sink files new.written new.write_faults)
          (λ report right. order_status order words (t.bytes ++ t.rest) files report (says report right)) ends)
          (no_read_fault status reports may_lack NeverMisses (of_sink files old.written old.write_faults) (of_sink files new.written new.write_faults) refl refl ends)
          (ends_as status reports (λ report. Reports words (t.bytes ++ t.rest) files report) may_lack (MayLackMemory words t.bytes) NeverMisses (MayMissShelf words t.bytes files) old new
          (λ report right. (Ok order, ordered, says report right)) (λ lack. (order, ordered, lacks lack)) (λ keeping never. absurd never)
          (at_sink files old new (known_files old.files) (unchanged old.files new.files same) status reports may_lack ends))

-- so it is with each command that asks something of a problem alone
module _ (words : List (List ℕ)) (old new : Seen) (same : new.files ≡ old.files) (pending : List ℕ) (problem : Problem)
    (t : TextRead (Ok problem) pending old.left new.left) (sound : SoundWithKings problem.position) (status : Status) where
  abbrev EndsWithSink : (Files → Report → Type 0) → Type 0 → Type 0
  EndsWithSink reports may_lack = (files : Files) → RunEndsAs status (reports files) may_lack NeverMisses (of_sink files old.written old.write_faults) (of_sink files new.written new.write_faults)

  pub text_ends : (order : Order) → Ordered words (Ok order) → (says : Problem → Files → Report → Type 0) (takes : Problem → Type 0)
      → ((bytes : List ℕ) (files : Files) (report : Report) → OfText (λ p rest. says p files) files bytes report → ReportsOrder order words bytes files report)
      → ((taken : List ℕ) → IsBehindText takes taken → OrderMayLack order taken)
      → EndsWithSink (says problem) (takes problem) → RunEnds words status old new
  text_ends order ordered says takes more lacks ends =
      let files = files_of old.files in
      let refuses = refuses_as (λ p rest. says p) (ReportsOrder order words) more in
      command_ends words old new same order ordered refuses pending problem t status (says problem files) (takes problem)
      (λ report right. more (t.bytes ++ t.rest) files report (of_problem words old new same order ordered refuses pending problem t (λ p rest. says p files) sound report right))
      (λ some. lacks t.bytes (behind_text words old new same order ordered refuses pending problem t takes sound some)) (ends files)

-- `keep` has the shelf too
module _ (words : List (List ℕ)) (old new : Seen) (pending : List ℕ) (problem : Problem)
    (t : TextRead (Ok problem) pending old.left new.left) (sound : SoundWithKings problem.position) (status : Status) where
  -- what was read, with the files as they were
  abbrev read : Seen
  read = record { left = new.left; written = old.written; files = old.files; read_faults = old.read_faults; write_faults = old.write_faults; shelf_faults = old.shelf_faults }

  pub keep_ends : (n budget : ℕ) (name : List ℕ) → Ordered words (Ok (Keep n budget)) → name_in (Keep n budget) words ≡ Some name
      → ((files : Files) → IfSome old.files (λ told. told ≡ files)
      → RunEndsAs status (KeepReports n budget problem name files) (¬ HasNothingToPlay n problem) (MissesKeep name (HasFileToKeep n budget problem))
      (of_shelf old.written old.files old.write_faults old.shelf_faults) (of_shelf new.written new.files new.write_faults new.shelf_faults))
      → RunEnds words status old new
  keep_ends n budget name ordered named ends =
      let order = Keep n budget in
      let refuses = refuses_as (λ r rest files. OfName (slice_get words 2) (λ name'. KeepReports n budget r name' files)) (ReportsOrder order words) (λ bytes files report right. right) in
      let files = files_of old.files in
      let before = of_shelf old.written old.files old.write_faults old.shelf_faults in
      let after = of_shelf new.written new.files new.write_faults new.shelf_faults in
      let Named : Option (List ℕ) → Report → Type 0 = λ o report. IsSomeAnd o (λ name'. KeepReports n budget problem name' files report) in
      let reports : Report → Type 0 = KeepReports n budget problem name files in
      let lacks : Type 0 = ¬ HasNothingToPlay n problem in
      let misses : Option (List ℕ) → Type 0 = MissesKeep name (HasFileToKeep n budget problem) in
      let ended : RunEndsAs status reports lacks misses before after = ends files (known_files old.files) in
      run_ends words status old new (record { taken = t.bytes; rest = t.rest; files = files; consumed = t.taken; left = t.left; kept = known_files old.files }) pending
      (lines_due words old read refl order ordered refuses pending t.takes)
      (not_usage status reports lacks misses before after (λ report right. (keep_row n budget problem name files).not_usage report right) ended)
      (no_read_fault status reports lacks misses before after refl refl ended)
      (ends_as status reports (λ report. Reports words (t.bytes ++ t.rest) files report) lacks (MayLackMemory words t.bytes) misses (MayMissShelf words t.bytes files) old new
      (λ report right. (
        Ok order,
        ordered,
        of_problem words old read refl order ordered refuses pending problem t (λ r rest. OfName (slice_get words 2) (λ name'. KeepReports n budget r name' files)) sound report
            (subst (λ o. Named o report) (sym named) right),
      ))
      (λ lack. (order, ordered, behind_text words old read refl order ordered refuses pending problem t (TakesMemory order) sound lack))
      (λ keeping miss. (
        order,
        ordered,
        record { named = miss.1 ∙ sym named; text = behind_text words old read refl order ordered refuses pending problem t (HasFileToKeep n budget) sound miss.0 },
      ))
      (with_source status reports lacks misses old new ended))

-- `check` reads nothing, and has the sink and the shelf
module _ (words : List (List ℕ)) (old new : Seen) (status : Status) where
  pub check_ends : (budget : ℕ) (name : List ℕ) → Ordered words (Ok (Check budget)) → name_in (Check budget) words ≡ Some name → new.left ≡ old.left
      → OnFiles old.files (λ files. RunEndsAs status (CheckReports budget name files) (Unit {0}) (MissesFetch [])
      (of_shelf old.written old.files old.write_faults old.shelf_faults) (of_shelf new.written new.files new.write_faults new.shelf_faults))
      → RunEnds words status old new
  check_ends budget name ordered named left (files, kept, ends) =
      let order = Check budget in
      let rest = unwrap_or old.left [] in
      let L : Option (List ℕ) → Type 0 = λ l. IfSome l (λ told. told ≡ rest) in
      let C : Option (List ℕ) → Type 0 = λ l. Consumes old.left l [] in
      let Named : Option (List ℕ) → Report → Type 0 = λ o report. IsSomeAnd o (λ name'. CheckReports budget name' files report) in
      let bytes = reported_on status [] rest in
      record {
        given = record {
          taken = [];
          rest = rest;
          files = files;
          consumed = subst C (sym left) (Consumes-nil old.left);
          left = subst L (sym left) (known_rest old.left);
          kept = kept;
        };
        takes = takes_nothing words files status;
        ends =
            ends_as status (CheckReports budget name files) (λ report. Reports words bytes files report) (Unit {0}) (MayLackMemory words []) (MissesFetch []) (MayMissShelf words [] files) old new
            (λ report right. (Ok order, ordered, subst (λ o. Named o report) (sym named) right)) (λ some. (order, ordered, refl))
            (λ keeping miss. (order, ordered, miss))
            (with_source status (CheckReports budget name files) (Unit {0}) (MissesFetch []) old new ends);
      }

  -- so does `migrate`
  pub migrate_ends : (from to : List ℕ) → IsOfFiles from to words → new.left ≡ old.left
      → OnFiles old.files (λ files. RunEndsAs status (MigrateReports from to files) (Unit {0}) (MissesMigrate from to files)
      (of_shelf old.written old.files old.write_faults old.shelf_faults) (of_shelf new.written new.files new.write_faults new.shelf_faults))
      → RunEnds words status old new
  migrate_ends from to o left (files, kept, ends) =
      let rest = unwrap_or old.left [] in
      let L : Option (List ℕ) → Type 0 = λ l. IfSome l (λ told. told ≡ rest) in
      let C : Option (List ℕ) → Type 0 = λ l. Consumes old.left l [] in
      let Between : Option (List ℕ) → Report → Type 0 = λ b report. IsSomeAnd b (λ to'. MigrateReports from to' files report) in
      let Named : Option (List ℕ) → Report → Type 0 = λ a report. IsSomeAnd a (λ from'. OfName (slice_get words 2) (λ to'. MigrateReports from' to' files) report) in
      let bytes = reported_on status [] rest in
      record {
        given = record {
          taken = [];
          rest = rest;
          files = files;
          consumed = subst C (sym left) (Consumes-nil old.left);
          left = subst L (sym left) (known_rest old.left);
          kept = kept;
        };
        takes = takes_nothing words files status;
        ends =
            ends_as status (MigrateReports from to files) (λ report. Reports words bytes files report) (Unit {0}) (MayLackMemory words []) (MissesMigrate from to files)
            (MayMissShelf words [] files) old new
            (λ report right. (Ok Migrate, o.ordered, subst (λ a. Named a report) (sym o.from_named) (subst (λ b. Between b report) (sym o.to_named) right)))
            (λ some. (Migrate, o.ordered, refl))
            (λ keeping fails. (Migrate, o.ordered, record { none = refl; from = from; to = to; from_named = o.from_named; to_named = o.to_named; fails = fails }))
            (with_source status (MigrateReports from to files) (Unit {0}) (MissesMigrate from to files) old new ends);
      }

  -- `resume` reads lines alone
  pub resume_ends : (budget : ℕ) (name : List ℕ) → Ordered words (Ok (Resume budget)) → name_in (Resume budget) words ≡ Some name
      → OnFiles old.files (λ files. (pending : List ℕ) × ResumeEnds budget name files status pending old new) → RunEnds words status old new
  resume_ends budget name ordered named (files, kept, (pending, p)) =
      let order = Resume budget in
      let Named : List ℕ → Option (List ℕ) → Report → Type 0 = λ bytes o report. IsSomeAnd o (λ name'. ResumeReports budget (lines_of bytes) name' files report) in
      let says : (bytes : List ℕ) (report : Report) → ResumeReports budget (lines_of bytes) name files report → Reports words bytes files report =
      λ bytes report right. (Ok order, ordered, subst (λ o. Named bytes o report) (sym named) right) in
      let all = reported_on status p.bytes p.rest in
      let lines : TakesLines (IsLineDue words files) p.bytes pending = record {
        lines = p.takes.lines;
        are_lines = p.takes.are_lines;
        due = λ k below. let due = p.takes.due k below in (due.0, says (text_of_lines (take k p.takes.lines)) due.0 due.1, due.2);
        bytes = p.takes.bytes;
        few = p.takes.few;
      } in
      record {
        given = record { taken = p.bytes; rest = p.rest; files = files; consumed = p.taken; left = p.left; kept = kept };
        takes =
            takes_lines words files status p.bytes pending
            (not_usage status (ResumeReports budget (lines_of all) name files) (p.bytes ≡ []) (MissesFetch p.bytes) old new
            (λ report right. (resume_row budget (lines_of all) name files).not_usage report right) p.ends)
            lines;
        ends =
            ends_as status (ResumeReports budget (lines_of all) name files) (λ report. Reports words all files report) (p.bytes ≡ [])
            (MayLackMemory words p.bytes) (MissesFetch p.bytes) (MayMissShelf words p.bytes files) old new
            (λ report right. says all report right) (λ none. (order, ordered, none)) (λ keeping miss. (order, ordered, miss)) p.ends;
      }

-- a command that reads lines has not the status of words that are no order
pub lines_not_usage : (order : Order) (words : List (List ℕ)) (says : Lines → Files → Report → Type 0) (lack : List ℕ → Type 0) (status : Status)
    → ((bytes : List ℕ) (files : Files) (report : Report) → says (lines_of bytes) files report → ReportsOrder order words bytes files report)
    → (left after written later : Option (List ℕ)) (reads reads_later writes writes_later : ℕ)
    → ((files : Files) → (pending : List ℕ) × EndsByLines (λ lines. says lines files) lack (λ bytes. NeverMisses) status [] pending
    (of_streams files left written reads writes) (of_streams files after later reads_later writes_later))
    → status ≢ is.Usage
lines_not_usage order words says lack status more left after written later reads reads_later writes writes_later ends =
    let old = of_streams no_files left written reads writes in
    let new = of_streams no_files after later reads_later writes_later in
    let p : EndsByLines (λ lines. says lines no_files) lack (λ bytes. NeverMisses) status [] (ends no_files).0 old new = (ends no_files).1 in
    let bytes = reported_on status p.bytes p.rest in
    not_usage status (says (lines_of bytes) no_files) (lack p.bytes) NeverMisses old new
    (λ report right. order_status order words bytes no_files report (more bytes no_files report right)) p.ends

-- a command that reads lines, and has the sink alone
module _ (words : List (List ℕ)) (old new : Seen) (status : Status) where
  abbrev seen_in : Files → Seen → Seen
  seen_in files seen = of_streams files seen.left seen.written seen.read_faults seen.write_faults

  abbrev EndsOnFiles : (Lines → Files → Report → Type 0) → (List ℕ → Type 0) → Type 0
  EndsOnFiles says lack =
      (files : Files) → (pending : List ℕ) × EndsByLines (λ lines. says lines files) lack (λ bytes. NeverMisses) status [] pending (seen_in files old) (seen_in files new)

  pub lines_ends : (order : Order) (says : Lines → Files → Report → Type 0) (lack : List ℕ → Type 0) → Ordered words (Ok order) → new.files ≡ old.files
      → ((bytes : List ℕ) (files : Files) (report : Report) → says (lines_of bytes) files report → ReportsOrder order words bytes files report)
      → ((taken : List ℕ) → lack taken → OrderMayLack order taken) → EndsOnFiles says lack → RunEnds words status old new
  lines_ends order says lack ordered same more lacks ends =
      let files = files_of old.files in
      let pending = (ends files).0 in
      let p : EndsByLines (λ lines. says lines files) lack (λ bytes. NeverMisses) status [] pending (seen_in files old) (seen_in files new) = (ends files).1 in
      let all = reported_on status p.bytes p.rest in
      let lines : TakesLines (IsLineDue words files) p.bytes pending = record {
        lines = p.takes.lines;
        are_lines = p.takes.are_lines;
        due = λ k below.
            let due = p.takes.due k below in
            (due.0, (Ok order, ordered, more (text_of_lines (take k p.takes.lines)) files due.0 due.1), due.2);
        bytes = p.takes.bytes;
        few = p.takes.few;
      } in
      let reports : Report → Type 0 = says (lines_of all) files in
      record {
        given = record { taken = p.bytes; rest = p.rest; files = files; consumed = p.taken; left = p.left; kept = known_files old.files };
        takes = takes_lines words files status p.bytes pending
            (not_usage status reports (lack p.bytes) NeverMisses (seen_in files old) (seen_in files new)
            (λ report right. order_status order words all files report (more all files report right)) p.ends) lines;
        ends =
            ends_as status reports (λ report. Reports words all files report) (lack p.bytes) (MayLackMemory words p.bytes) NeverMisses (MayMissShelf words p.bytes files) old new
            (λ report right. (Ok order, ordered, more all files report right)) (λ some. (order, ordered, lacks p.bytes some)) (λ keeping never. absurd never)
            (at_files files old new (known_files old.files) (unchanged old.files new.files same) old.left new.left old.read_faults new.read_faults
            (λ risen. risen) status reports (lack p.bytes) p.ends);
      }
