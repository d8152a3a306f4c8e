-- A run over ports that tell all, and of which none fails.
use Rattle.std.proofs.Common.{◌≡◌, ℕ, List, [], ◌++◌, take, take_all, Option, Some, None, IfSome, inl, inr, refl, sym, ◌∙◌, ap, subst}
use Rattle.std.specs.Prelude.{codes}
use Rattle.std.specs.Io.KnownBytes.{Consumes}
use Rattle.desk_base.specs.Files.{Files, Go}
use Rattle.desk_report.specs.Outcome.{DoesReport, Report, Seen, WriteFailed, Writes}
use Rattle.desk_report.specs.declared.status.Status.{Status}
use Rattle.desk_report.specs.declared.status.Status.TheVariants as is
use Rattle.mate_desk.specs.Faultless.{ExactWhereNoneFails, Held, IsFault, NoneFailed, Tells, ToldExactly, held}
use Rattle.mate_desk.specs.Report.{Reports}
use Rattle.mate_desk.specs.Run.{RunEnds, Takes}
use Rattle.mate_desk.proofs.Headline.{told_bytes}

-- what was taken of a source that told its bytes, and what it tells then
rest_bytes : (before after : Option (List ℕ)) (bytes taken rest : List ℕ) → before ≡ Some bytes → Consumes before after taken → IfSome after (λ told. told ≡ rest)
    → (after ≡ Some rest) × (bytes ≡ taken ++ rest)
rest_bytes None after bytes taken rest told consumed left = absurd (cc)
rest_bytes (Some xs) None bytes taken rest told consumed left = absurd consumed
rest_bytes (Some xs) (Some ys) bytes taken rest told consumed left =
    let same : bytes ≡ xs = cc in (ap (λ r. Some r) left, same ∙ consumed ∙ ap (λ r. taken ++ r) left)

-- files that were told are told after a run, as they then are
told_files : (before after : Option Files) (files due : Files) → before ≡ Some files → Go before after (λ x y. y ≡ due) → after ≡ Some due
told_files None after files due told leaves = absurd (cc)
told_files (Some x) None files due told leaves = absurd leaves
told_files (Some x) (Some y) files due told leaves = ap (λ f. Some f) leaves

kept_files : (before after : Option Files) (files : Files) → before ≡ Some files → Go before after (λ x y. y ≡ x) → after ≡ Some files
kept_files None after files told stays = absurd (cc)
kept_files (Some x) None files told stays = absurd stays
kept_files (Some x) (Some y) files told stays = let same : x ≡ files = cc in ap (λ f. Some f) (stays ∙ same)

known : (before : Option Files) (files given : Files) → before ≡ Some files → IfSome before (λ told. told ≡ given) → given ≡ files
known None files given told kept = absurd (cc)
known (Some x) files given told kept = let same : x ≡ files = cc in sym kept ∙ same

-- what is written of a text and a fault line to a sink that has not failed
pub whole : (before after : Option (List ℕ)) (out text fault : List ℕ) (failed : Type 0) → before ≡ Some out → ¬ failed → Writes text fault before after failed
    → after ≡ Some (out ++ (text ++ fault))
whole before after out text fault failed told not w =
    let all : take w.count fault ≡ fault = elim w.whole [
      | inl most ↦ take_all w.count fault most
      | inr fails ↦ absurd (not fails)
    ] in
    let some = told_bytes before after out (text ++ take w.count fault) told w.front in
    some.1 ∙ ap (λ l. Some l) (some.2 ∙ ap (λ line. out ++ (text ++ line)) all)

module _ (words : List (List ℕ)) (old : Held) (before after : Seen) (tells : Tells before old) (none : NoneFailed before after) where
  module _ (status : Status) (run : RunEnds words status before after) where
    abbrev taken : List ℕ
    taken = run.given.taken

    came : (after.left ≡ Some run.given.rest) × (old.input ≡ taken ++ run.given.rest)
    came = rest_bytes before.left after.left old.input taken run.given.rest tells.input run.given.consumed run.given.left

    files_are : run.given.files ≡ old.files
    files_are = known before.files old.files run.given.files tells.files run.given.kept

    takes : Takes words old.files status taken
    takes = let P : Files → Type 0 = λ files. Takes words files status taken in subst P files_are run.takes

    -- it did what is reported of all bytes
    did : ¬ IsFault status → (report : Report) → Reports words (taken ++ run.given.rest) run.given.files report → DoesReport status report before after
        → ToldExactly words status old after
    did no_fault report reports does =
        let P : List ℕ → Type 0 = λ bytes. Reports words bytes run.given.files report in
        let Q : Files → Type 0 = λ files. Reports words old.input files report in
        record {
          new = held run.given.rest (old.output ++ (report.text ++ report.fault)) report.files;
          told = record {
            input = came.0;
            output = whole before.written after.written old.output report.text report.fault (WriteFailed before after) tells.output none.sink does.written;
            files = told_files before.files after.files old.files report.files tells.files does.files;
          };
          ends = record {
            faultless = no_fault;
            taken = taken;
            input = came.1;
            takes = takes;
            ends = inl (record {
              report = report;
              reports = subst Q files_are (subst P (sym came.1) reports);
              status_is = does.reported;
              output = refl;
              files = refl;
            });
          };
        }

  exactly : (status : Status) → RunEnds words status before after → ToldExactly words status old after
  exactly is.Done run = did is.Done run (λ fault. fault) run.ends.0 run.ends.1 run.ends.2
  exactly is.Usage run = did is.Usage run (λ fault. fault) run.ends.0 run.ends.1 run.ends.2
  exactly is.Text run = did is.Text run (λ fault. fault) run.ends.0 run.ends.1 run.ends.2
  exactly is.Unsound run = did is.Unsound run (λ fault. fault) run.ends.0 run.ends.1 run.ends.2
  exactly is.Budget run = did is.Budget run (λ fault. fault) run.ends.0 run.ends.1 run.ends.2
  exactly is.Wide run = did is.Wide run (λ fault. fault) run.ends.0 run.ends.1 run.ends.2
  exactly is.File run = did is.File run (λ fault. fault) run.ends.0 run.ends.1 run.ends.2
  exactly is.Ended run = did is.Ended run (λ fault. fault) run.ends.0 run.ends.1 run.ends.2
  exactly is.TooMany run = did is.TooMany run (λ fault. fault) run.ends.0 run.ends.1 run.ends.2
  exactly is.ReadFault run = absurd (none.source run.ends.2.failed)
  exactly is.WriteFault run = absurd (none.sink run.ends.2.failed)
  exactly is.ShelfFault run = absurd (none.shelf run.ends.2.failed)
  exactly is.Memory run =
      let lacks = run.ends.1 in
      record {
        new = held run.given.rest (old.output ++ codes "memory\n") old.files;
        told = record {
          input = (came is.Memory run).0;
          output = whole before.written after.written old.output [] (codes "memory\n") (WriteFailed before after) tells.output none.sink lacks.written;
          files = kept_files before.files after.files old.files tells.files lacks.files;
        };
        ends = record {
          faultless = λ fault. fault;
          taken = run.given.taken;
          input = (came is.Memory run).1;
          takes = takes is.Memory run;
          ends = inr (record { lacks = run.ends.0; status_is = refl; output = refl; files = refl });
        };
      }

-- so it is of each run
pub exact_where_none_fails : ExactWhereNoneFails
exact_where_none_fails words status old before after tells none run = exactly words old before after tells none status run
