-- How a command ends that keeps a file, from whether the file is kept. Crates above cite these lemmas.
use Rattle.std.proofs.Common.{◌≡◌, ◌≢◌, ℕ, List, [], Option, Some, None, IfSome, Result, Ok, Err, inl, inr, refl, ◌∙◌, ap, subst, arith}
use Rattle.std.specs.FinMap as finite
use Rattle.desk_base.specs.Faults.{HasRisen}
use Rattle.desk_base.specs.Files.{Files, FilesStay, Go, OtherFilesStay}
use Rattle.desk_base.specs.Moves.{AppendsFront}
use Rattle.desk_base.specs.declared.files.KeepError.{KeepError}
use Rattle.desk_base.specs.declared.files.KeepError.TheVariants as keep_error
use Rattle.game_rules.specs.Game.{Position, Value}
use Rattle.game_rules.specs.declared.men.Side.{Side}
use Rattle.strategy_writer.specs.declared.writing.WriteFileError.{WriteFileError}
use Rattle.strategy_writer.specs.declared.writing.WriteFileError.TheVariants as write_error
use Rattle.winning_sets.specs.Solve.{IsOf, Solution}
use Rattle.desk_report.specs.Outcome.{DoesReport, RunEndsAs, NeverMisses, Report, Seen, WriteFailed, Writes, done_with, of_sink}
use Rattle.desk_report.specs.declared.status.Status.{Status}
use Rattle.desk_report.specs.declared.status.Status.TheVariants as is
use Rattle.desk_report.proofs.Writing.{ends_as, go_same}
use Rattle.desk_text.specs.declared.problem.Problem.{Problem}
use Rattle.desk_verdict.specs.Verdict.{FitsBudget, HasNothingToPlay}
use Rattle.desk_verdict.proofs.Values.{none_mates}
use Rattle.desk_files.specs.Keep.{HasFileToKeep, IsFileToKeep, KeepReports, kept_file}
use Rattle.desk_files.specs.Keeping.{FileReports, FileToKeep, IsThere, Keeps, MissesKeep, no_file_line, no_file_status, unkept, unwritten}
use Rattle.desk_files.specs.declared.no_file.NoFile.{NoFile}
use Rattle.desk_files.specs.declared.no_file.NoFile.TheVariants.{TooLarge, SetTooLarge, Fault, Memory}
use Rattle.desk_files.proofs.Shelves.{same_kept}

-- the bytes were put under the name
pub put_leaves : (old new : Option Files) (files : Files) (name bytes : List ℕ) → IfSome old (λ known. known ≡ files)
    → Go old new (λ before after. after ≡ finite.insert before name bytes) → Go old new (λ before after. after ≡ finite.insert files name bytes)
put_leaves None new files name bytes h put = tt
put_leaves (Some x) None files name bytes h put = absurd put
put_leaves (Some x) (Some y) files name bytes h put = put ∙ ap (λ f. finite.insert f name bytes) h

-- files that stay, and then go on
go_from : (way : Files → Files → Type 0) (old between new : Option Files) → FilesStay old between → Go between new way → Go old new way
go_from way None between new stay goes = tt
go_from way (Some x) None new stay goes = absurd stay
go_from way (Some x) (Some y) None stay goes = absurd goes
go_from way (Some x) (Some y) (Some z) stay goes = let P : Files → Type 0 = λ f. way f z in subst P stay goes

does_leave : (status : Status) (due : Report) (old new : Seen) → Go old.files new.files (λ before after. after ≡ due.files)
    → (report : Report) × (report ≡ due) × DoesReport status report (of_sink due.files old.written old.write_faults) (of_sink due.files new.written new.write_faults)
    → DoesReport status due old new
does_leave status due old new left (report, is', does) =
    let P : Report → Type 0 = λ r. DoesReport status r (of_sink due.files old.written old.write_faults) (of_sink due.files new.written new.write_faults) in
    let d = subst P is' does in
    record { reported = d.reported; written = d.written; files = left }

-- what is printed after the files were changed
pub printed_leaving : (status : Status) (reports : Report → Type 0) (may_lack : Type 0) (may_miss : Option (List ℕ) → Type 0) (due : Report)
    (old new : Seen)
    → reports due → Go old.files new.files (λ before after. after ≡ due.files)
    → RunEndsAs status (λ report. report ≡ due) ⊥ NeverMisses (of_sink due.files old.written old.write_faults) (of_sink due.files new.written new.write_faults)
    → RunEndsAs status reports may_lack may_miss old new
printed_leaving is.Done reports may_lack may_miss due old new right left ends = (due, right, does_leave is.Done due old new left ends)
printed_leaving is.Usage reports may_lack may_miss due old new right left ends = (due, right, does_leave is.Usage due old new left ends)
printed_leaving is.Text reports may_lack may_miss due old new right left ends = (due, right, does_leave is.Text due old new left ends)
printed_leaving is.Unsound reports may_lack may_miss due old new right left ends = (due, right, does_leave is.Unsound due old new left ends)
printed_leaving is.Budget reports may_lack may_miss due old new right left ends = (due, right, does_leave is.Budget due old new left ends)
printed_leaving is.Wide reports may_lack may_miss due old new right left ends = (due, right, does_leave is.Wide due old new left ends)
printed_leaving is.File reports may_lack may_miss due old new right left ends = (due, right, does_leave is.File due old new left ends)
printed_leaving is.Ended reports may_lack may_miss due old new right left ends = (due, right, does_leave is.Ended due old new left ends)
printed_leaving is.TooMany reports may_lack may_miss due old new right left ends = (due, right, does_leave is.TooMany due old new left ends)
printed_leaving is.ReadFault reports may_lack may_miss due old new right left ends = absurd (omega (arith, ends.2.failed))
printed_leaving is.ShelfFault reports may_lack may_miss due old new right left ends = absurd ends.1
printed_leaving is.Memory reports may_lack may_miss due old new right left ends = absurd ends.0
printed_leaving is.WriteFault reports may_lack may_miss due old new right left (report, is', some) =
    let P : Report → Type 0 = λ r. AppendsFront old.written new.written r.text in
    (due, right, record { failed = some.failed; written = subst P is' some.written; files = left })

pub unwritten_no_fault : (error : WriteFileError) → unwritten error ≡ Fault → ⊥
unwritten_no_fault (write_error.TooLarge size) e = absurd (cc)
unwritten_no_fault (write_error.SetTooLarge states) e = absurd (cc)
unwritten_no_fault write_error.Memory e = absurd (cc)

pub unkept_failed : (error : KeepError) → unkept error ≡ Fault → error ≡ keep_error.Failed
unkept_failed keep_error.Failed e = refl
unkept_failed keep_error.Memory e = absurd (cc)

module _ (file : FileToKeep) (name : List ℕ) where
  -- a file that was not written is not kept
  pub unwritten_keeps : (error : WriteFileError) (told : Option Files) → ((size : ℕ) → error ≡ write_error.TooLarge size → file.is_too_large size)
      → ((states : ℕ) → error ≡ write_error.SetTooLarge states → file.has_large_set states) → Keeps file name (Err (unwritten error)) told told
  unwritten_keeps (write_error.TooLarge size) told large set = (large size refl, same_kept told)
  unwritten_keeps (write_error.SetTooLarge states) told large set = (set states refl, same_kept told)
  unwritten_keeps write_error.Memory told large set = same_kept told

  -- nor one that the shelf does not keep
  pub unkept_keeps : (error : KeepError) (bytes : List ℕ) (old new : Option Files) → file.is_file bytes
      → (error ≡ keep_error.Failed → OtherFilesStay old new name) → (error ≡ keep_error.Memory → FilesStay old new)
      → Keeps file name (Err (unkept error)) old new
  unkept_keeps keep_error.Failed bytes old new is' others stay = ((bytes, is'), others refl)
  unkept_keeps keep_error.Memory bytes old new is' others stay = stay refl

  -- files that stayed before were there before
  pub keeps_from : (result : Result (Unit {0}) NoFile) (old between new : Option Files) → FilesStay old between → Keeps file name result between new
      → Keeps file name result old new
  keeps_from (Ok done) old between new stay (bytes, is', gain) = (bytes, is', go_from (λ before after. after ≡ finite.insert before name bytes) old between new stay gain)
  keeps_from (Err (TooLarge size)) old between new stay (large, same) = (large, go_from (λ before after. after ≡ before) old between new stay same)
  keeps_from (Err (SetTooLarge states)) old between new stay (large, same) = (large, go_from (λ before after. after ≡ before) old between new stay same)
  keeps_from (Err Fault) old between new stay (there, others) =
      (there, go_from (λ before after. (other : List ℕ) → other ≢ name → finite.get after other ≡ finite.get before other) old between new stay others)
  keeps_from (Err Memory) old between new stay same = go_from (λ before after. after ≡ before) old between new stay same

  -- another file is kept so
  pub keeps_as : (other : FileToKeep) (result : Result (Unit {0}) NoFile) (old new : Option Files) → ((bytes : List ℕ) → file.is_file bytes → other.is_file bytes)
      → ((size : ℕ) → file.is_too_large size → other.is_too_large size) → ((states : ℕ) → file.has_large_set states → other.has_large_set states)
      → Keeps file name result old new → Keeps other name result old new
  keeps_as other (Ok done) old new fits large set (bytes, is', gain) = (bytes, fits bytes is', gain)
  keeps_as other (Err (TooLarge size)) old new fits large set (is', same) = (large size is', same)
  keeps_as other (Err (SetTooLarge states)) old new fits large set (is', same) = (set states is', same)
  keeps_as other (Err Fault) old new fits large set ((bytes, is'), others) = ((bytes, fits bytes is'), others)
  keeps_as other (Err Memory) old new fits large set same = same

  module _ (files : Files) (old new : Seen) (kept : IfSome old.files (λ told. told ≡ files)) where
    abbrev Ends : Status → Type 0
    Ends status = RunEndsAs status (FileReports file name files) (Unit {0}) (MissesKeep name (IsThere file)) old new

    -- a file that is kept is told so
    pub kept_ends : (status : Status) (text : List ℕ) → text ≡ file.line → Keeps file name (Ok tt) old.files new.files
        → ((after : Files) → RunEndsAs status (λ report. report ≡ done_with after text) ⊥ NeverMisses (of_sink after old.written old.write_faults) (of_sink after new.written new.write_faults))
        → Ends status
    kept_ends status text line (bytes, is', gain) ends =
        let after = finite.insert files name bytes in
        printed_leaving status (FileReports file name files) (Unit {0}) (MissesKeep name (IsThere file)) (done_with after text) old new
        (inl (bytes, is', ap (done_with after) line)) (put_leaves old.files new.files files name bytes kept gain) (ends after)

    -- and why one is not
    pub unkept_ends : (why : NoFile) → Keeps file name (Err why) old.files new.files → (why ≡ Fault → HasRisen old.shelf_faults new.shelf_faults)
        → Writes [] (no_file_line why) old.written new.written (WriteFailed old new) → Ends (no_file_status why)
    unkept_ends (TooLarge size) (large, same) failed wrote =
        (_, inr (inl (size, large, refl)), record { reported = refl; written = wrote; files = go_same files (λ before after. after ≡ files) old.files new.files same kept refl })
    unkept_ends (SetTooLarge states) (large, same) failed wrote =
        (_, inr (inr (states, large, refl)), record { reported = refl; written = wrote; files = go_same files (λ before after. after ≡ files) old.files new.files same kept refl })
    unkept_ends Fault (there, others) failed wrote = (Some name, (there, refl), record { failed = failed refl; written = wrote; files = others })
    unkept_ends Memory same failed wrote = (tt, record { written = wrote; files = same })

-- what is kept of a solved problem is kept of the problem
module _ (problem : Problem) (n : ℕ) (s : Solution) (of : IsOf problem.position problem.winner n s) where
  abbrev Along : (Side → Position → ℕ → Type 0) → Type 0
  Along F = F s.winner s.position s.moves → F problem.winner problem.position n

  along : (F : Side → Position → ℕ → Type 0) → Along F
  along F h =
      let W : Side → Type 0 = λ w. F w s.position s.moves in
      let P : Position → Type 0 = λ p. F problem.winner p s.moves in
      let N : ℕ → Type 0 = λ k. F problem.winner problem.position k in
      subst N of.moves_are (subst P of.position (subst W of.winner_is h))

  -- so `keep` ends as the file of the solved problem is kept
  pub solved_ends : (budget : ℕ) (name : List ℕ) (files : Files) (status : Status) (old new : Seen) → FitsBudget problem budget n → Value problem.winner n problem.position
      → RunEndsAs status (FileReports (kept_file s.winner s.position s.moves) name files) (Unit {0})
      (MissesKeep name (IsThere (kept_file s.winner s.position s.moves))) old new
      → RunEndsAs status (KeepReports n budget problem name files) (¬ HasNothingToPlay n problem) (MissesKeep name (HasFileToKeep n budget problem)) old new
  solved_ends budget name files status old new fits value ends =
      ends_as status (FileReports (kept_file s.winner s.position s.moves) name files) (KeepReports n budget problem name files) (Unit {0}) (¬ HasNothingToPlay n problem)
      (MissesKeep name (IsThere (kept_file s.winner s.position s.moves))) (MissesKeep name (HasFileToKeep n budget problem)) old new
      (λ report right. inr (fits, inr (value, along (λ w p k. FileReports (kept_file w p k) name files report) right)))
      (λ some none. none_mates none value)
      (λ keeping miss. (
        record { fits = fits; value = value; bytes = miss.0.0; file = along (λ w p k. IsFileToKeep w p k miss.0.0) miss.0.1 },
        miss.1,
      ))
      ends
