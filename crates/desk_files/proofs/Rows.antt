-- What is reported of a file that is kept, and of the file of a name, is one report. Crates above cite these lemmas.
use Rattle.std.proofs.Common.{◌≡◌, ◌≤◌, ◌<◌, ℕ, List, length, Option, Some, None, Result, Ok, Err, codes, inl, inr, ap, arith}
use Rattle.std.specs.FinMap as map
use Rattle.std.proofs.lemmas.Option.{same_Some}
use Rattle.desk_base.specs.Files.{Files}
use Rattle.game_rules.specs.Game.{Position, Value}
use Rattle.game_rules.specs.declared.men.Side.{Side}
use Rattle.claim_plan.specs.CheckPlan.{check_plan}
use Rattle.claim_plan.specs.declared.names.RuleAt.{RuleAt}
use Rattle.mate_plan.specs.Claim.{Claim}
use Rattle.set_plan.specs.Outcome as plan
use Rattle.strategy_file.proofs.OnceLemmas.{one_outcome}
use Rattle.strategy_writer.proofs.KeptFiles.{one_kept_file}
use Rattle.strategy_writer.proofs.WrittenClaims.{one_written}
use Rattle.strategy_file.specs.Claims.{claim_with}
use Rattle.strategy_file.specs.declared.version.Version.TheVariants.{Shared}
use Rattle.strategy_file.specs.Layout.{Refusal}
use Rattle.strategy_file.specs.StrategyFile.{Charts, File}
use Rattle.strategy_writer.specs.Written.{most_bytes}
use Rattle.winning_sets.specs.Solve.{IsSolveError}
use Rattle.winning_sets.specs.declared.names.SolveError.TheVariants as solve_error
use Rattle.winning_sets.specs.declared.names.StepName.{StepName}
use Rattle.desk_report.specs.Outcome.{Report, done_with}
use Rattle.desk_report.proofs.One.{IsOne, and_row, due_of_row, due_row, either_row, over_row, said_row}
use Rattle.desk_text.specs.declared.problem.Problem.{Problem}
use Rattle.desk_verdict.specs.StepLines.{budget_line}
use Rattle.desk_verdict.specs.Verdict.{mate_line, no_mate_line}
use Rattle.desk_verdict.proofs.Rows.{within_row}
use Rattle.desk_files.specs.Check.{CheckReports}
use Rattle.desk_files.specs.FileLines.{file_line, file_refused, not_kept_line, set_too_large_line, too_large_line}
use Rattle.desk_files.specs.FileClaim.{OfBytes, OfChecked, OfClaim, OfFile, OfFound, OfOutcome, OfRules}
use Rattle.desk_files.specs.Keep.{KeepReports, kept_file}
use Rattle.desk_files.specs.Keeping.{FileReports, FileToKeep}
use Rattle.desk_files.specs.Migrate.{MigrateReports, migrated_file}
use Rattle.desk_files.proofs.OneFinding.{check_exceeds_once, found_exceeds, found_once}

-- there is one file to keep, or one size or one largest set that is too large
record IsOneFile (file : FileToKeep) : Type 0 where
  once : (a b : List ℕ) → file.is_file a → file.is_file b → a ≡ b
  size_once : (a b : ℕ) → file.is_too_large a → file.is_too_large b → a ≡ b
  set_once : (a b : ℕ) → file.has_large_set a → file.has_large_set b → a ≡ b
  not_both : (bytes : List ℕ) (size : ℕ) → file.is_file bytes → file.is_too_large size → ⊥
  no_file : (bytes : List ℕ) (states : ℕ) → file.is_file bytes → file.has_large_set states → ⊥
  no_size : (size states : ℕ) → file.is_too_large size → file.has_large_set states → ⊥

-- a file that is kept
file_row : (file : FileToKeep) (name : List ℕ) (files : Files) → IsOneFile file → IsOne (FileReports file name files)
file_row file name files one =
    let kept : List ℕ → Report = λ bytes. done_with (map.insert files name bytes) file.line in
    let large : ℕ → Report = λ size. file_refused files (too_large_line size) in
    let set : ℕ → Report = λ states. file_refused files (set_too_large_line states) in
    either_row
    (due_of_row file.is_file kept (λ bytes e. absurd (cc)) (λ x y a b. ap kept (one.once x y a b)))
    (either_row
    (due_of_row file.is_too_large large (λ size e. absurd (cc)) (λ x y a b. ap large (one.size_once x y a b)))
    (due_of_row file.has_large_set set (λ states e. absurd (cc)) (λ x y a b. ap set (one.set_once x y a b)))
    (λ r s large' set'. one.no_size large'.0 set'.0 large'.1 set'.1))
    (λ r s is' or'. elim or' [
      | inl large' ↦ one.not_both is'.0 large'.0 is'.1 large'.1
      | inr set' ↦ one.no_file is'.0 set'.0 is'.1 set'.1
    ])

one_kept : (winner : Side) (p : Position) (n : ℕ) → IsOneFile (kept_file winner p n)
one_kept winner p n =
    let one = one_kept_file Shared winner p n in
    record {
      once = λ a b h k. one.one_file a b h.file k.file;
      size_once = one.one_size;
      set_once = one.one_set;
      not_both = λ bytes size h k. let e = one.same_size bytes size h.file k in omega (arith, e, h.small, k.large);
      no_file = λ bytes states h k. one.no_file bytes states h.file k;
      no_size = one.no_size;
    }

one_migrated : (c : Claim) → IsOneFile (migrated_file c)
one_migrated c =
    let one = one_written c in
    record {
      once = λ a b h k. one.one_file a b h.file k.file;
      size_once = one.one_size;
      set_once = λ a b none. absurd none;
      not_both = λ bytes size h k. let e = one.same_size bytes size h.file k in omega (arith, e, h.small, k.large);
      no_file = λ bytes states h none. none;
      no_size = λ size states h none. none;
    }

pub keep_row : (n budget : ℕ) (problem : Problem) (name : List ℕ) (files : Files) → IsOne (KeepReports n budget problem name files)
keep_row n budget problem name files =
    let value : Type 0 = Value problem.winner n problem.position in
    within_row n budget problem files
    (either_row (and_row (value → ⊥) (due_row (done_with files (no_mate_line n)) (λ e. absurd (cc))))
    (and_row value (file_row (kept_file problem.winner problem.position n) name files (one_kept problem.winner problem.position n)))
    (λ r s none some. none.0 some.0))

-- the file of a name, where it is so of its claim
module _ (reports : Claim → Report → Type 0) (files : Files) (one : (c : Claim) → IsOne (reports c)) where
  outcome_row : (outcome : Result Charts Refusal) → IsOne (OfOutcome reports files outcome)
  outcome_row (Err refusal) = due_row (file_refused files (file_line refusal)) (λ e. absurd (cc))
  outcome_row (Ok charts) = one (claim_with charts)

  bytes_row : (bytes : List ℕ) → IsOne (OfBytes reports files bytes)
  bytes_row bytes =
      either_row
      (and_row (most_bytes < length bytes) (due_row (file_refused files (codes "file too long\n")) (λ e. absurd (cc))))
      (and_row (length bytes ≤ most_bytes) (said_row (File bytes) (OfOutcome reports files) (one_outcome bytes) outcome_row))
      (λ r s long short. omega (arith, long.0, short.0))

  found_row : (found : Option (List ℕ)) → IsOne (OfFound reports files found)
  found_row None = due_row (file_refused files (codes "file missing\n")) (λ e. absurd (cc))
  found_row (Some bytes) = bytes_row bytes

  name_row : (name : List ℕ) → IsOne (OfFile reports name files)
  name_row name = found_row (map.get files name)

pub migrate_row : (from to : List ℕ) (files : Files) → IsOne (MigrateReports from to files)
migrate_row from to files =
    name_row (λ c. FileReports (migrated_file c) to files) files (λ c. file_row (migrated_file c) to files (one_migrated c)) from

-- and where that is checked
module _ (reports : Claim → Report → Type 0) (budget : ℕ) (files : Files) (one : (c : Claim) → IsOne (reports c)) where
  rules_row : (c : Claim) → IsOne (OfRules reports budget files c)
  rules_row c =
      let Fails : RuleAt → Type 0 = λ failed. plan.Ends (check_plan c) budget (Some failed) in
      either_row
      (due_of_row Fails (λ failed. file_refused files (not_kept_line failed)) (λ failed e. absurd (cc))
      (λ f g a b. ap (λ failed. file_refused files (not_kept_line failed)) (same_Some f g (found_once c budget (Some f) (Some g) a b))))
      (and_row (plan.Ends (check_plan c) budget None) (one c))
      (λ r s fails keeps. let e : Some fails.0 ≡ None = found_once c budget (Some fails.0) None fails.1 keeps.0 in absurd (cc))

  over_or_rules : (c : Claim) (step : StepName) (report : Report) → IsSolveError (check_plan c) c.moves budget (solve_error.Over step) → OfRules reports budget files c report → ⊥
  over_or_rules c step report over (inl (failed, fails, is')) = found_exceeds c budget (Some failed) step fails over
  over_or_rules c step report over (inr (keeps, right)) = found_exceeds c budget None step keeps over

  claim_row : (c : Claim) → IsOne (OfClaim reports budget files c)
  claim_row c =
      over_row budget_line (λ step. IsSolveError (check_plan c) c.moves budget (solve_error.Over step)) files
      (rules_row c) (λ s t a b. ap budget_line (check_exceeds_once c budget s t a b)) (over_or_rules c)

  pub checked_row : (name : List ℕ) → IsOne (OfChecked reports budget name files)
  checked_row name = name_row (OfClaim reports budget files) files claim_row name

pub check_row : (budget : ℕ) (name : List ℕ) (files : Files) → IsOne (CheckReports budget name files)
check_row budget name files =
    checked_row (λ c report. report ≡ done_with files (mate_line c.moves)) budget files (λ c. due_row (done_with files (mate_line c.moves)) (λ e. absurd (cc))) name
