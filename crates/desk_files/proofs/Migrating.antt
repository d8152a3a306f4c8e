-- The claim of a file is kept anew.
use Rattle.std.proofs.Common.{◌≤◌, ℕ, List, [], ◌∷◌, map, Option, Result, Ok, inr, arith}
use Rattle.std.specs.List.{AllZip}
use Rattle.mate_plan.specs.Claim.{Claim, ClaimedSet}
use Rattle.desk_base.specs.Faults.{HasRisen}
use Rattle.desk_base.specs.Files.{Files}
use Rattle.strategy_file.proofs.SameReads.{listed, read_is_same, same_words}
use Rattle.strategy_file.specs.Claims.{claim_with, set_with}
use Rattle.strategy_writer.specs.Laws.{IsReadAsSame}
use Rattle.strategy_writer.specs.ReducedClaims.{IsReducedClaim, IsReducedSet, IsWrittenOf, IsWrittenTooLarge}
use Rattle.strategy_file.specs.StrategyFile.{Charts, chart_of, charts_of}
use Rattle.desk_report.specs.Outcome.{RunEndsAs, Report, Seen}
use Rattle.desk_report.specs.declared.status.Status.{Status}
use Rattle.desk_report.proofs.Writing.{ends_as}
use Rattle.desk_files.specs.FileClaim.{IsReadAs}
use Rattle.desk_files.specs.Keeping.{FileReports, IsThere, Keeps, MissesKeep}
use Rattle.desk_files.specs.Migrate.{IsMigrated, MigrateReports, MissesMigrate, migrated_file}
use Rattle.desk_files.specs.declared.no_file.NoFile.{NoFile}
use Rattle.desk_files.proofs.FileClaims.{of_read, same_between}
use Rattle.desk_files.proofs.KeptFiles.{keeps_as}

-- what is reduced of a set is reduced of its tables
reduced_set : {of made : ClaimedSet} → IsReducedSet of made → IsReducedSet (set_with (chart_of of)) made
unfolding listed
reduced_set {of} {made} h = record {
  ply = h.ply;
  mask = h.mask;
  tracks = h.tracks;
  words = record {
    same = λ word is'.
        let own = h.words.same word is' in
        let told = same_words of.set word in
        (λ accepts. told.0 (own.0 accepts), λ accepts. own.1 (told.1 accepts));
  };
  in_order = h.in_order;
  fewer = h.fewer;
}

reduced_sets : (sets made : List ClaimedSet) → AllZip IsReducedSet sets made → AllZip IsReducedSet (map set_with (map chart_of sets)) made
reduced_sets [] [] h = tt
reduced_sets [] (m ∷ made) h = absurd h
reduced_sets (s ∷ sets) [] h = absurd h
reduced_sets (s ∷ sets) (m ∷ made) h = (reduced_set h.0, reduced_sets sets made h.1)

-- so the file of a claim is that of its tables
module _ (c : Claim) where
  abbrev told : Claim
  told = claim_with (charts_of c)

  reduced : {made : Claim} → IsReducedClaim c made → IsReducedClaim told made
  reduced {made} h = record { position = h.position; winner = h.winner; moves = h.moves; sets = reduced_sets c.sets made.sets h.sets }

  written_told : (bytes : List ℕ) → IsWrittenOf c bytes → IsWrittenOf told bytes
  written_told bytes h = record { reduced = h.reduced; is = reduced h.is; file = h.file }

  read_told : (bytes : List ℕ) → IsReadAsSame c bytes → IsReadAsSame told bytes
  read_told bytes h = record { charts = h.charts; read = h.read; same = same_between (read_is_same c) h.same }

  migrated_told : (bytes : List ℕ) → IsMigrated c bytes → IsMigrated told bytes
  migrated_told bytes h = record { file = written_told bytes h.file; small = h.small; same = read_told bytes h.same }

  too_large_told : (size : ℕ) → IsWrittenTooLarge c size → IsWrittenTooLarge told size
  too_large_told size h = record { reduced = h.reduced; is = reduced h.is; size_is = h.size_is; large = h.large }

  pub keeps_told : (name : List ℕ) (result : Result (Unit {0}) NoFile) (old new : Option Files) → Keeps (migrated_file c) name result old new → Keeps (migrated_file told) name result old new
  keeps_told name result old new keeps = keeps_as (migrated_file c) name (migrated_file told) result old new migrated_told too_large_told (λ states none. none) keeps

-- `migrate` ends as the file of the claim that was read is kept
pub claim_migrates : (from to : List ℕ) (files : Files) (charts : Charts) → IsReadAs from files (Ok charts) → (status : Status) (old new : Seen)
    → RunEndsAs status (FileReports (migrated_file (claim_with charts)) to files) (Unit {0}) (MissesKeep to (IsThere (migrated_file (claim_with charts)))) old new
    → RunEndsAs status (MigrateReports from to files) (Unit {0}) (MissesMigrate from to files) old new
claim_migrates from to files charts read status old new ends =
    let Says : Claim → Report → Type 0 = λ c. FileReports (migrated_file c) to files in
    let file = migrated_file (claim_with charts) in
    ends_as status (FileReports file to files) (MigrateReports from to files) (Unit {0}) (Unit {0}) (MissesKeep to (IsThere file)) (MissesMigrate from to files) old new
    (λ report right. of_read Says from files report charts read right) (λ lack. lack)
    (λ keeping miss. inr (record { charts = charts; read = read; file = miss.0 }, miss.1))
    ends

pub later_risen : (before between after : ℕ) → before ≤ between → HasRisen between after → HasRisen before after
later_risen before between after le risen = omega (arith, le, risen)
