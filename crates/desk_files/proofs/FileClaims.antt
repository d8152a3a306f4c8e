-- What is reported of a file, from what is fetched of it.
use Rattle.std.proofs.Common.{◌≡◌, ℕ, ◌≤◌, List, [], length, Option, Some, None, IfSome, Result, Ok, Err, inl, inr, refl, sym, ◌∙◌, ap, subst}
use Rattle.std.specs.FinMap as files_map
use Rattle.claim_plan.proofs.SameClaims.{same_claims_are_checked_alike}
use Rattle.auto_core.specs.Automaton.{Automaton}
use Rattle.track_word.specs.Word.{IsWord}
use Rattle.mate_plan.specs.SameClaim.{AreSameSets, IsSameClaim, IsSameSet}
use Rattle.claim_plan.specs.SameClaims.{AreCheckedAlike}
use Rattle.desk_base.specs.Faults.{HasRisen}
use Rattle.desk_base.specs.Files.{Files, Go}
use Rattle.mate_plan.specs.Claim.{Claim, claimed_at}
use Rattle.strategy_file.proofs.FileClaims.{files_are_claims}
use Rattle.strategy_file.proofs.SameReads.{read_is_same}
use Rattle.strategy_file.specs.Claims.{claim_with, claim_of as file_claim}
use Rattle.strategy_file.specs.Fitting.{HasFileOf}
use Rattle.strategy_file.specs.Layout.{Refusal}
use Rattle.strategy_file.specs.Layout as layout
use Rattle.strategy_file.specs.StrategyFile.{Charts, File, charts_of}
use Rattle.strategy_writer.specs.Written.{most_bytes}
use Rattle.strategy_file.specs.declared.claim.Claim.{Claim as ClaimHere}
use Rattle.strategy_file.specs.declared.version.Version.TheVariants.{Shared}
use Rattle.winning_sets.specs.Solve.{Solution}
use Rattle.desk_files.specs.Check.{CheckReports}
use Rattle.desk_files.specs.FileClaim.{Fetches, HasFileClaim, IsFetched, IsReadAs, LacksClaim, LacksFile, MissesFetch, OfChecked, OfClaim, OfFile, OfFound, OfOutcome, ReadsFile, TellsChecked, TellsRead, no_claim_line, no_claim_status}
use Rattle.desk_files.specs.FileLines.{file_refused}
use Rattle.desk_report.specs.Outcome.{RunEndsAs, NeverMisses, Report, Seen, Writes, WriteFailed, done_with, of_sink}
use Rattle.desk_verdict.specs.Verdict.{mate_line}
use Rattle.desk_files.specs.declared.file_claim.NoClaim.{NoClaim}
use Rattle.desk_files.specs.declared.file_claim.NoClaim.TheVariants.{Fault, Missing, TooLong, Cut, Byte, Extra, NotKept, Over, Memory}
use Rattle.desk_report.specs.declared.status.Status.{Status}
use Rattle.desk_report.specs.declared.status.Status.TheVariants as is
use Rattle.desk_report.proofs.Writing.{at_sink, ends_as, go_same}

-- two claims that are the same as a third are the same
same_set_between : {a b d : Automaton} → IsSameSet a b → IsSameSet a d → IsSameSet b d
same_set_between x y = record {
  tracks = sym x.tracks ∙ y.tracks;
  words = record {
    same = λ word is'.
        let over = subst (λ t. IsWord (length t) word) (sym x.tracks) is' in
        let one = x.words.same word over in
        let two = y.words.same word over in
        (λ h. two.0 (one.1 h), λ h. one.0 (two.1 h));
  };
}

same_sets_between : (a b d : Option Automaton) → AreSameSets a b → AreSameSets a d → AreSameSets b d
same_sets_between None None None x y = tt
same_sets_between None None (Some d) x y = absurd y
same_sets_between None (Some b) d x y = absurd x
same_sets_between (Some a) None d x y = absurd x
same_sets_between (Some a) (Some b) None x y = absurd y
same_sets_between (Some a) (Some b) (Some d) x y = same_set_between x y

pub same_between : {a b d : Claim} → IsSameClaim a b → IsSameClaim a d → IsSameClaim b d
same_between {a} {b} {d} x y = record {
  position = sym x.position ∙ y.position;
  winner = sym x.winner ∙ y.winner;
  moves = sym x.moves ∙ y.moves;
  sets = λ ply mask. same_sets_between (claimed_at a ply mask) (claimed_at b ply mask) (claimed_at d ply mask) (x.sets ply mask) (y.sets ply mask);
}

-- how a command of a file ends
module _ (reports : Claim → Report → Type 0) (name : List ℕ) (files : Files) where
  -- what is reported of the bytes of the name
  of_bytes : (report : Report) (found : Option (List ℕ)) → files_map.get files name ≡ found → OfFound reports files found report → OfFile reports name files report
  of_bytes report found is right = let P : Option (List ℕ) → Type 0 = λ o. OfFound reports files o report in subst P (sym is) right

  of_outcome : (report : Report) {outcome : Result Charts Refusal} → IsReadAs name files outcome → OfOutcome reports files outcome report → OfFile reports name files report
  of_outcome report {outcome} r right = of_bytes report (Some r.bytes) r.found (inr (r.short, (outcome, r.file, right)))

  -- of the claim that its bytes are the file of
  pub of_read : (report : Report) (charts : Charts) → IsReadAs name files (Ok charts) → reports (claim_with charts) report → OfFile reports name files report
  of_read report charts r right = of_outcome report r right

  module _ (may_lack : Type 0) (may_miss : Option (List ℕ) → Type 0) (old new : Seen) (kept : IfSome old.files (λ told. told ≡ files))
      (same : Go old.files new.files (λ before after. after ≡ before)) where
    refused : (line : List ℕ) → OfFile reports name files (file_refused files line)
        → Writes [] line old.written new.written (WriteFailed old new) → RunEndsAs is.File (OfFile reports name files) may_lack may_miss old new
    refused line right wrote = (
      file_refused files line,
      right,
      record { reported = refl; written = wrote; files = go_same files (λ before after. after ≡ files) old.files new.files same kept refl },
    )

    -- where it gives no claim, the run ends with the reason
    pub unread_ends : (why : NoClaim) → LacksFile name files why → may_lack → may_miss None
        → (why ≡ Fault → HasRisen old.shelf_faults new.shelf_faults)
        → Writes [] (no_claim_line why) old.written new.written (WriteFailed old new)
        → RunEndsAs (no_claim_status why) (OfFile reports name files) may_lack may_miss old new
    unread_ends Fault lacks lack miss failed wrote = (None, miss, record { failed = failed refl; written = wrote; files = same })
    unread_ends Memory lacks lack miss failed wrote = (lack, record { written = wrote; files = same })
    unread_ends Missing lacks lack miss failed wrote = refused _ (of_bytes _ None lacks refl) wrote
    unread_ends TooLong (bytes, found, long) lack miss failed wrote = refused _ (of_bytes _ (Some bytes) found (inl (long, refl))) wrote
    unread_ends (Cut at) r lack miss failed wrote = refused _ (of_outcome _ r refl) wrote
    unread_ends (Byte at why) r lack miss failed wrote = refused _ (of_outcome _ r refl) wrote
    unread_ends (Extra at) r lack miss failed wrote = refused _ (of_outcome _ r refl) wrote
    unread_ends (NotKept rule) none lack miss failed wrote = absurd none
    unread_ends (Over step) none lack miss failed wrote = absurd none

-- and one whose claim is checked
module _ (reports : Claim → Report → Type 0) (budget : ℕ) (name : List ℕ) (files : Files) where
  -- of a claim that keeps all rules
  pub of_claim : {s : Solution} (report : Report) (h : HasFileClaim budget name files s) → reports (claim_with h.charts) report → OfChecked reports budget name files report
  of_claim report h right = of_read (OfClaim reports budget files) name files report h.charts h.read (inr (inr (h.keeps_rules, right)))

  module _ (may_lack : Type 0) (old new : Seen) (kept : IfSome old.files (λ told. told ≡ files)) (same : Go old.files new.files (λ before after. after ≡ before)) where
    abbrev Ends : Status → Type 0
    Ends status = RunEndsAs status (OfChecked reports budget name files) may_lack (MissesFetch []) old new

    unread : (why : NoClaim) → LacksFile name files why → may_lack → (why ≡ Fault → HasRisen old.shelf_faults new.shelf_faults)
        → Writes [] (no_claim_line why) old.written new.written (WriteFailed old new) → Ends (no_claim_status why)
    unread why lacks lack failed wrote =
        unread_ends (OfClaim reports budget files) name files may_lack (MissesFetch []) old new kept same why lacks lack (record { none = refl; fetching = refl }) failed wrote

    pub refused_ends : (why : NoClaim) → LacksClaim budget name files why → may_lack
        → (why ≡ Fault → HasRisen old.shelf_faults new.shelf_faults)
        → Writes [] (no_claim_line why) old.written new.written (WriteFailed old new)
        → Ends (no_claim_status why)
    refused_ends Fault lacks lack failed wrote = unread Fault lacks lack failed wrote
    refused_ends Memory lacks lack failed wrote = unread Memory lacks lack failed wrote
    refused_ends Missing lacks lack failed wrote = unread Missing lacks lack failed wrote
    refused_ends TooLong lacks lack failed wrote = unread TooLong lacks lack failed wrote
    refused_ends (Cut at) lacks lack failed wrote = unread (Cut at) lacks lack failed wrote
    refused_ends (Byte at why) lacks lack failed wrote = unread (Byte at why) lacks lack failed wrote
    refused_ends (Extra at) lacks lack failed wrote = unread (Extra at) lacks lack failed wrote
    refused_ends (NotKept rule) (charts, r, finds) lack failed wrote = (
      _,
      of_read (OfClaim reports budget files) name files _ charts r (inr (inl (rule, finds, refl))),
      record { reported = refl; written = wrote; files = go_same files (λ before after. after ≡ files) old.files new.files same kept refl },
    )
    refused_ends (Over step) (charts, r, over) lack failed wrote = (
      _,
      of_read (OfClaim reports budget files) name files _ charts r (inl (step, over, refl)),
      record { reported = refl; written = wrote; files = go_same files (λ before after. after ≡ files) old.files new.files same kept refl },
    )

-- what is fetched and read in turn
module _ (name : List ℕ) (files : Files) where
  pub not_fetched : (why : NoClaim) → IsFetched name files (Err why) → LacksFile name files why
  not_fetched Fault h = tt
  not_fetched Memory h = tt
  not_fetched Missing h = h
  not_fetched TooLong h = h
  not_fetched (Cut at) h = absurd h
  not_fetched (Byte at why) h = absurd h
  not_fetched (Extra at) h = absurd h
  not_fetched (NotKept rule) h = absurd h
  not_fetched (Over step) h = absurd h

  module _ (bytes : List ℕ) (found : files_map.get files name ≡ Some bytes) (short : length bytes ≤ most_bytes) where
    read_as : (outcome : Result Charts Refusal) → File bytes outcome → IsReadAs name files outcome
    read_as outcome file = record { bytes = bytes; found = found; short = short; file = file }

    not_read : (why : NoClaim) → TellsRead bytes (Err why) → LacksFile name files why
    not_read Fault h = absurd h
    not_read Memory h = tt
    not_read Missing h = absurd h
    not_read TooLong h = absurd h
    not_read (Cut at) h = read_as (Err (layout.Cut at)) h
    not_read (Byte at why) h = read_as (Err (layout.Byte at why)) h
    not_read (Extra at) h = read_as (Err (layout.Extra at)) h
    not_read (NotKept rule) h = absurd h
    not_read (Over step) h = absurd h

    pub reads : (r : Result ClaimHere NoClaim) → TellsRead bytes r → ReadsFile name files r
    reads (Ok c) h = (read_as (Ok (charts_of (file_claim c))) h.0, h.1)
    reads (Err why) h = not_read why h

-- and then checked
module _ (budget : ℕ) (name : List ℕ) (files : Files) where
  pub unread_lacks : (why : NoClaim) → LacksFile name files why → LacksClaim budget name files why
  unread_lacks Fault h = h
  unread_lacks Memory h = h
  unread_lacks Missing h = h
  unread_lacks TooLong h = h
  unread_lacks (Cut at) h = h
  unread_lacks (Byte at why) h = h
  unread_lacks (Extra at) h = h
  unread_lacks (NotKept rule) h = absurd h
  unread_lacks (Over step) h = absurd h

  -- the claim of the tables is checked as the one that was read
  module _ (c : Claim) (read : IsReadAs name files (Ok (charts_of c))) (has_file : HasFileOf c) where
    abbrev told : Claim
    told = claim_with (charts_of c)

    alike : AreCheckedAlike c told
    alike = same_claims_are_checked_alike c told (read_is_same c)

    not_checked : (why : NoClaim) → TellsChecked c budget (Err why) → LacksClaim budget name files why
    not_checked Fault h = absurd h
    not_checked Memory h = tt
    not_checked Missing h = absurd h
    not_checked TooLong h = absurd h
    not_checked (Cut at) h = absurd h
    not_checked (Byte at why) h = absurd h
    not_checked (Extra at) h = absurd h
    not_checked (NotKept rule) h = (charts_of c, read, (alike.ends budget (Some rule)).0 h)
    not_checked (Over step) h = (
      charts_of c,
      read,
      (h.0, (alike.stops budget (record { part = record { ply = step.ply; mask = step.mask; part = step.part }; at = step.at })).0 h.1),
    )

    checked : (s : Solution) → TellsChecked c budget (Ok s) → HasFileClaim budget name files s
    checked s (is_checked, keeps) = record {
      charts = charts_of c;
      read = read;
      is_claim = alike.claims.0 (files_are_claims Shared c has_file);
      keeps_rules = (alike.ends budget None).0 keeps;
      origin = is_checked.origin;
      same = same_between (read_is_same c) is_checked.same;
    }

    pub checks : (r : Result Solution NoClaim) → TellsChecked c budget r → Fetches budget name files r
    checks (Ok s) h = checked s h
    checks (Err why) h = not_checked why h

-- `check` ends as its line is printed
pub line_checks : {budget : ℕ} {name : List ℕ} {files : Files} {s : Solution} → HasFileClaim budget name files s
    → (status : Status) (text : List ℕ) (old new : Seen) → text ≡ mate_line s.moves
    → IfSome old.files (λ told. told ≡ files) → Go old.files new.files (λ before after. after ≡ before)
    → RunEndsAs status (λ report. report ≡ done_with files text) ⊥ NeverMisses (of_sink files old.written old.write_faults) (of_sink files new.written new.write_faults)
    → RunEndsAs status (CheckReports budget name files) (Unit {0}) (MissesFetch []) old new
line_checks {budget} {name} {files} {s} h status text old new line kept same ends =
    let says : Claim → Report → Type 0 = λ c report. report ≡ done_with files (mate_line c.moves) in
    let moves : s.moves ≡ h.charts.moves = sym h.same.moves in
    ends_as status (λ report. report ≡ done_with files text) (CheckReports budget name files) ⊥ (Unit {0}) NeverMisses (MissesFetch []) old new
    (λ report is'. of_claim says budget name files report h (is' ∙ ap (done_with files) (line ∙ ap mate_line moves)))
    (λ none. absurd none) (λ keeping never. absurd never)
    (at_sink files old new kept same status (λ report. report ≡ done_with files text) ⊥ ends)
