-- The laws of what comes of a kept file.
use Rattle.std.proofs.Common.{◌≡◌, ◌⊎◌, ◌≤◌, ℕ, List, [], ◌++◌, take, Option, Some, None, IfSome, Result, Ok, Err, inl, inr, refl, sym, ◌∙◌, ap, subst, arith}
use Rattle.std.specs.FinMap as map
use Rattle.std.specs.Prelude.{IsSomeAnd, codes, length, slice_get}
use Rattle.std.proofs.lemmas.List.{append-nil, append_cancel_left}
use Rattle.claim_plan.proofs.CheckLaws.{check_finds_first, ends_where_won, none_fails_where_won}
use Rattle.claim_plan.proofs.ClaimLemmas.{won_is_value}
use Rattle.claim_plan.specs.CheckPlan.{check_plan}
use Rattle.desk_base.specs.Files.{Files, Go}
use Rattle.desk_base.specs.Lines.{Lines, lines_of}
use Rattle.game_rules.specs.Game.{SoundWithKings, Value}
use Rattle.mate_plan.specs.Claim.{Claim}
use Rattle.set_plan.specs.Outcome as plan
use Rattle.strategy_writer.proofs.KeptFiles.{kept_file_is_claim}
use Rattle.strategy_file.proofs.OnceLemmas.{one_outcome}
use Rattle.strategy_file.specs.Claims.{claim_with}
use Rattle.strategy_writer.specs.KeptFile.{IsReadAsWon}
use Rattle.strategy_file.specs.Layout.{Refusal}
use Rattle.strategy_file.specs.StrategyFile.{Charts, File}
use Rattle.strategy_writer.specs.Written.{most_bytes}
use Rattle.strategy_file.specs.declared.version.Version.TheVariants.{Shared}
use Rattle.winning_sets.specs.Solve.{IsSolveError}
use Rattle.winning_sets.specs.declared.names.SolveError.TheVariants as solve_error
use Rattle.desk_files.specs.Check.{CheckReports}
use Rattle.desk_files.specs.FileClaim.{IsReadAs, OfChecked, OfClaim, OfFound, OfOutcome}
use Rattle.desk_files.specs.FileLines.{file_line, file_refused, too_large_line}
use Rattle.desk_files.specs.Keep.{IsFileToKeep, KeepReports}
use Rattle.desk_files.specs.Keeping.{FileReports}
use Rattle.desk_files.specs.Migrate.{IsMigrated, MigrateReports, migrated_file}
use Rattle.mate_desk.specs.Laws.{CheckedAfterKeep, HasKept, IsCarried, MigrateCarries, NamesCheckStep, ResumeKeeps, ResumesGame}
use Rattle.desk_report.specs.Outcome.{Report, Seen, done_with}
use Rattle.desk_report.specs.OfText.{OfRead, OfSound}
use Rattle.mate_desk.specs.Command.{OfName}
use Rattle.desk_games.specs.Resume.{GameReports, ResumeReports}
use Rattle.desk_text.specs.Text.{Text, whole, refused}
use Rattle.desk_verdict.specs.Verdict.{mate_line}
use Rattle.desk_args.specs.declared.order.Order.TheVariants.{Keep, Check, Resume, Migrate}
use Rattle.desk_text.specs.declared.problem.Problem.{Problem}
use Rattle.desk_report.specs.declared.status.Status.TheVariants as is
use Rattle.mate_desk.proofs.Exact.{of_words, one_line}
use Rattle.mate_desk.proofs.Following.{claim_keeps}
use Rattle.mate_desk.proofs.Headline.{take_none, told_bytes}
use Rattle.mate_desk.proofs.ReadClaims.{read_is_claim}
use Rattle.desk_files.proofs.Shelves.{has_put, put_others}

-- what is said of the claim of a file may be more
module _ (one more : Claim → Report → Type 0) (budget : ℕ) (files : Files) (report : Report)
    (says : (bytes : List ℕ) (charts : Charts) → File bytes (Ok charts) → plan.Ends (check_plan (claim_with charts)) budget None
    → one (claim_with charts) report → more (claim_with charts) report) where
  outcome_more : (bytes : List ℕ) (outcome : Result Charts Refusal) → File bytes outcome → OfOutcome (OfClaim one budget files) files outcome report → OfOutcome (OfClaim more budget files) files outcome report
  outcome_more bytes (Err refusal) file right = right
  outcome_more bytes (Ok charts) file (inl over) = inl over
  outcome_more bytes (Ok charts) file (inr (inl failed)) = inr (inl failed)
  outcome_more bytes (Ok charts) file (inr (inr (keeps, right))) = inr (inr (keeps, says bytes charts file keeps right))

  found_more : (found : Option (List ℕ)) → OfFound (OfClaim one budget files) files found report → OfFound (OfClaim more budget files) files found report
  found_more None right = right
  found_more (Some bytes) (inl long) = inl long
  found_more (Some bytes) (inr (short, (outcome, file, right))) = inr (short, (outcome, file, outcome_more bytes outcome file right))

  file_more : (name : List ℕ) → OfChecked one budget name files report → OfChecked more budget name files report
  file_more name right = found_more (map.get files name) right

pub resume_keeps : ResumeKeeps
resume_keeps words bytes files budget name report ordered named reports =
    let lines = lines_of bytes in
    let Named : Option (List ℕ) → Type 0 = λ o. IsSomeAnd o (λ n. ResumeReports budget lines n files report) in
    let right : ResumeReports budget lines name files report = subst Named named (of_words words bytes files (Resume budget) report ordered reports) in
    file_more (GameReports lines files) (ResumesGame lines files) budget files report (game lines) name right
  where
    game : (lines : Lines) (read : List ℕ) (charts : Charts) → File read (Ok charts) → plan.Ends (check_plan (claim_with charts)) budget None
        → GameReports lines files (claim_with charts) report → ResumesGame lines files (claim_with charts) report
    game lines read charts file keeps (played, right, is') =
        let c = claim_with charts in
        let claim = read_is_claim read charts file in
        let won = ((ends_where_won c budget claim).0 keeps).0 in
        (won_is_value c claim won, (played, right, is', λ number after at. claim_keeps claim won 0 lines played right number after at))

-- what a run of `keep` that is done with its line has left
record Leaves (n : ℕ) (name : List ℕ) (files given : Files) : Type 0 where
  problem : Problem
  sound : SoundWithKings problem.position
  value : Value problem.winner n problem.position
  bytes : List ℕ
  file : IsFileToKeep problem.winner problem.position n bytes
  left : files ≡ map.insert given name bytes

module _ (n budget : ℕ) (name : List ℕ) (files given : Files) (report : Report) (done : report.status ≡ is.Done)
    (wrote : report.fault ≡ [] → report.text ≡ mate_line n) (left : files ≡ report.files) where
  keep_leaves : (problem : Problem) → SoundWithKings problem.position → KeepReports n budget problem name given report → Leaves n name files given
  keep_leaves problem sound (inl (step, over, is')) = let e : is.Done ≡ is.Budget = sym done ∙ ap (λ r. r.status) is' in absurd (cc)
  keep_leaves problem sound (inr (fits, inl (none, is'))) =
      absurd (one_line n (sym (wrote (ap (λ r. r.fault) is')) ∙ ap (λ r. r.text) is'))
  keep_leaves problem sound (inr (fits, inr (value, inl (bytes, file, is')))) =
      record { problem = problem; sound = sound; value = value; bytes = bytes; file = file; left = left ∙ ap (λ r. r.files) is' }
  keep_leaves problem sound (inr (fits, inr (value, inr (inl (size, large, is'))))) = let e : is.Done ≡ is.File = sym done ∙ ap (λ r. r.status) is' in absurd (cc)
  keep_leaves problem sound (inr (fits, inr (value, inr (inr (states, large, is'))))) = let e : is.Done ≡ is.File = sym done ∙ ap (λ r. r.status) is' in absurd (cc)

  abbrev Says : Problem → Lines → Report → Type 0
  Says problem rest r = KeepReports n budget problem name given r

  sound_leaves : (problem : Problem) (rest : Lines) → OfSound (Says problem rest) given problem.position report → Leaves n name files given
  sound_leaves problem rest (inl (why, fault, is')) = let e : is.Done ≡ is.Unsound = sym done ∙ ap (λ r. r.status) is' in absurd (cc)
  sound_leaves problem rest (inr (sound, right)) = keep_leaves problem sound right

  text_leaves : (text : Text Problem) → OfRead Says given text report → Leaves n name files given
  text_leaves (refused number why) is' = let e : is.Done ≡ is.Text = sym done ∙ ap (λ r. r.status) is' in absurd (cc)
  text_leaves (whole problem rest) right = sound_leaves problem rest right

kept_before : (old : Option Files) (before given : Files) → old ≡ Some before → IfSome old (λ told. told ≡ given) → before ≡ given
kept_before None before given told h = absurd (cc)
kept_before (Some x) before given told h = let same : before ≡ x = cc in same ∙ h

kept_after : (old new : Option Files) (before files left : Files) → old ≡ Some before → new ≡ Some files → Go old new (λ x y. y ≡ left) → files ≡ left
kept_after None new before files left told after h = absurd (cc)
kept_after (Some x) None before files left told after h = absurd (cc)
kept_after (Some x) (Some y) before files left told after h = let same : files ≡ y = cc in same ∙ h

-- what is written behind the bytes is the text that is reported
text_is : (out text all : List ℕ) (old new : Option (List ℕ)) (n : ℕ) → new ≡ Some all → new ≡ Some (out ++ mate_line n) → all ≡ out ++ text → text ≡ mate_line n
text_is out text all old new n one two is' = let same : all ≡ out ++ mate_line n = cc in append_cancel_left out text (mate_line n) (sym is' ∙ same)

module _ (words : List (List ℕ)) (n budget : ℕ) (name : List ℕ) (files : Files) (old new : Seen) (h : HasKept words n budget name files old new) where
  abbrev report : Report
  report = h.ends.ends.0

  abbrev given : Files
  given = h.ends.given.files

  wrote : report.fault ≡ [] → report.text ≡ mate_line n
  wrote none =
      let written = h.ends.ends.2.written in
      let told = told_bytes old.written new.written h.out (report.text ++ take written.count report.fault) h.written_before written.front in
      let text = told.2 ∙ ap (λ l. h.out ++ l) (ap (λ l. report.text ++ l) (take_none written.count report.fault none) ∙ append-nil report.text) in
      text_is h.out report.text told.0 old.written new.written n told.1 h.written text

  leaves : Leaves n name files given
  leaves =
      let bytes = h.ends.given.taken ++ h.ends.given.rest in
      let read = of_words words bytes given (Keep n budget) report h.ordered h.ends.ends.1 in
      let Named : Option (List ℕ) → Type 0 = λ o. OfRead (λ problem rest r. IsSomeAnd o (λ name'. KeepReports n budget problem name' given r)) given read.0 report in
      text_leaves n budget name files given report (sym h.ends.ends.2.reported) wrote
      (kept_after old.files new.files h.before files report.files h.files_before h.files_after h.ends.ends.2.files) read.0 (subst Named h.named read.2)

-- the file is there, as it was kept, and its claim is won
module _ (n other : ℕ) (name : List ℕ) (files kept given : Files) (l : Leaves n name kept given) (still : map.get files name ≡ map.get kept name) (report : Report) where
  won : IsReadAsWon l.problem.winner l.problem.position n l.bytes
  won = kept_file_is_claim Shared l.problem.winner l.problem.position n l.bytes l.sound.sound l.value l.file.small l.file.file

  abbrev c : Claim
  c = claim_with won.charts

  found : map.get files name ≡ Some l.bytes
  found = still ∙ ap (λ f. map.get f name) l.left ∙ has_put given name l.bytes

  is_read : IsReadAs name files (Ok won.charts)
  is_read = record { bytes = l.bytes; found = found; short = l.file.small; file = won.read }

  abbrev Prints : Claim → Report → Type 0
  Prints d r = r ≡ done_with files (mate_line d.moves)

  abbrev Told : Type 0
  Told = (report ≡ done_with files (mate_line n)) ⊎ NamesCheckStep n other name files report

  claim_told : OfClaim Prints other files c report → Told
  claim_told (inl (step, over, is')) =
      let Exceeds : ℕ → Type 0 = λ m. IsSolveError (check_plan c) m other (solve_error.Over step) in
      inr (record { charts = won.charts; read = is_read; moves = won.moves_are; step = step; exceeds = subst Exceeds won.moves_are over; named = is' })
  claim_told (inr (inl (failed, ends, is'))) =
      let none : Some failed ≡ None = (none_fails_where_won c (Some failed) won.claim (check_finds_first c ends.entries (Some failed) won.claim ends.takes)).1 won.won in absurd (cc)
  claim_told (inr (inr (keeps, is'))) = inl (is' ∙ ap (λ m. done_with files (mate_line m)) won.moves_are)

  bytes_told : OfFound (OfClaim Prints other files) files (Some l.bytes) report → Told
  bytes_told (inl (long, is')) = let small = l.file.small in absurd (omega (arith, long, small))
  bytes_told (inr (short, (outcome, file, right))) =
      let P : Result Charts Refusal → Type 0 = λ o. OfOutcome (OfClaim Prints other files) files o report in
      claim_told (subst P (one_outcome l.bytes outcome (Ok won.charts) file won.read) right)

  file_told : CheckReports other name files report → Told
  file_told right =
      let P : Option (List ℕ) → Type 0 = λ o. OfFound (OfClaim Prints other files) files o report in
      bytes_told (subst P found right)

pub checked_after_keep : CheckedAfterKeep
checked_after_keep words later n budget other name kept files old new bytes report h still ordered named reports =
    let Named : Option (List ℕ) → Type 0 = λ o. IsSomeAnd o (λ name'. CheckReports other name' files report) in
    file_told n other name files kept h.ends.given.files (leaves words n budget name kept old new h) still report
    (subst Named named (of_words later bytes files (Check other) report ordered reports))

-- what a run of `migrate` that is done has left
module _ (from to : List ℕ) (given before after : Files) (before_is : before ≡ given) (report : Report) (done : report.status ≡ is.Done) (left : after ≡ report.files) where
  abbrev Migrates : Claim → Report → Type 0
  Migrates c = FileReports (migrated_file c) to given

  put_carried : (charts : Charts) (bytes : List ℕ) → IsReadAs from given (Ok charts) → IsMigrated (claim_with charts) bytes → after ≡ map.insert given to bytes → IsCarried from to before after
  put_carried charts bytes read is' put = record {
    charts = charts;
    read = subst (λ f. IsReadAs from f (Ok charts)) (sym before_is) read;
    migrated = is'.same.charts;
    read_again = record { bytes = bytes; found = ap (λ f. map.get f to) put ∙ has_put given to bytes; short = is'.small; file = is'.same.read };
    same = is'.same.same;
    others = λ name other. ap (λ f. map.get f name) put ∙ put_others given to bytes name other ∙ ap (λ f. map.get f name) (sym before_is);
  }

  no_refusal : (line : List ℕ) → report ≡ file_refused given line → ⊥
  no_refusal line is' = let e : is.Done ≡ is.File = sym done ∙ ap (λ r. r.status) is' in absurd (cc)

  outcome_carried : (bytes : List ℕ) → map.get given from ≡ Some bytes → length bytes ≤ most_bytes → (outcome : Result Charts Refusal) → File bytes outcome
      → OfOutcome Migrates given outcome report → IsCarried from to before after
  outcome_carried bytes at short (Err refusal) file is' = absurd (no_refusal (file_line refusal) is')
  outcome_carried bytes at short (Ok charts) file (inl (kept, migrated, is')) =
      put_carried charts kept (record { bytes = bytes; found = at; short = short; file = file }) migrated (left ∙ ap (λ r. r.files) is')
  outcome_carried bytes at short (Ok charts) file (inr (inl (size, large, is'))) = absurd (no_refusal (too_large_line size) is')
  outcome_carried bytes at short (Ok charts) file (inr (inr (states, none, is'))) = absurd none

  found_carried : (found : Option (List ℕ)) → map.get given from ≡ found → OfFound Migrates given found report → IsCarried from to before after
  found_carried None at is' = absurd (no_refusal (codes "file missing\n") is')
  found_carried (Some bytes) at (inl (long, is')) = absurd (no_refusal (codes "file too long\n") is')
  found_carried (Some bytes) at (inr (short, (outcome, file, right))) = outcome_carried bytes at short outcome file right

pub migrate_carries : MigrateCarries
migrate_carries words from to before after old new h =
    let given = h.ends.given.files in
    let report = h.ends.ends.0 in
    let Between : Option (List ℕ) → Type 0 = λ b. IsSomeAnd b (λ to'. MigrateReports from to' given report) in
    let Named : Option (List ℕ) → Type 0 = λ a. IsSomeAnd a (λ from'. OfName (slice_get words 2) (λ to'. MigrateReports from' to' given) report) in
    let read = of_words words (h.ends.given.taken ++ h.ends.given.rest) given Migrate report h.ordered h.ends.ends.1 in
    found_carried from to given before after (kept_before old.files before given h.files_before h.ends.given.kept) report (sym h.ends.ends.2.reported)
    (kept_after old.files new.files before after report.files h.files_before h.files_after h.ends.ends.2.files) (map.get given from) refl
    (subst Between h.to_named (subst Named h.from_named read))
