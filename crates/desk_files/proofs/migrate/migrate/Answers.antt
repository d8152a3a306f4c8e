use Rattle.std.proofs.Common.{Ok, Err, inl, refl, ap}
use Rattle.mate_plan.specs.Claim.{Claim}
use Rattle.strategy_file.specs.Claims.{claim_of, claim_with}
use Rattle.strategy_file.specs.StrategyFile.{charts_of}
use Rattle.desk_report.specs.Outcome.{Report}
use Rattle.desk_files.specs.Keeping.{FileReports}
use Rattle.desk_files.specs.Migrate.{MissesMigrate, migrated_file}
use Rattle.desk_files.proofs.FileClaims.{unread_ends}
use Rattle.desk_files.proofs.KeptFiles.{keeps_from, kept_ends, unkept_ends}
use Rattle.desk_files.proofs.Migrating.{claim_migrates, keeps_told, later_risen}
use Rattle.desk_files.proofs.migrate.migrate.Goals as goal

pub keep_claim-requires : goal.keep_claim-requires
keep_claim-requires g c = record { claim = c.in-Ok.ensures.reads.2.1 }

pub returns-in-Err : goal.returns-in-Err
returns-in-Err g c =
    let f = c.in-Err.ensures.reads in
    let from = c.args.from.now in
    let to = c.args.to.now in
    let Says : Claim → Report → Type 0 = λ d. FileReports (migrated_file d) to f.0 in
    record {
      ends = (
        f.0,
        f.1,
        rw c.refuse_file.ensures.status
            (unread_ends Says from f.0 (Unit {0}) (MissesMigrate from to f.0) _ _ f.1 c.in-Err.ensures.same c.in-Err.why f.2 tt (inl refl)
            (λ e. c.in-Err.ensures.failed (ap Err e)) c.refuse_file.ensures.written),
      );
    }

pub returns-in-Ok-keep_claim : goal.returns-in-Ok-keep_claim
returns-in-Ok-keep_claim g c =
    let f = c.in-Ok.ensures.reads in
    let from = c.args.from.now in
    let to = c.args.to.now in
    let claim = claim_of c.in-Ok.claim in
    let told = claim_with (charts_of claim) in
    let old = g.H.Shelf.files c.args.shelf.now in
    let mid = g.H.Shelf.files c.fetch_file.new.shelf in
    let new = g.H.Shelf.files c.keep_claim.new.shelf in
    record {
      ends = (
        f.0,
        f.1,
        claim_migrates from to f.0 (charts_of claim) f.2.0 c.print.result _ _
            (kept_ends (migrated_file told) to f.0 _ _ f.1 c.print.result _ refl
            (keeps_from (migrated_file told) to (Ok tt) old mid new c.in-Ok.ensures.same (keeps_told claim to (Ok tt) mid new c.in-Ok-keep_claim.ensures.keeps))
            (λ after. c.print.ensures.ends after)),
      );
    }

pub returns : goal.returns
returns g c =
    let f = c.in-Ok.ensures.reads in
    let from = c.args.from.now in
    let to = c.args.to.now in
    let claim = claim_of c.in-Ok.claim in
    let told = claim_with (charts_of claim) in
    let why = c.in-Err-keep_claim.why in
    let old = g.H.Shelf.files c.args.shelf.now in
    let mid = g.H.Shelf.files c.fetch_file.new.shelf in
    let new = g.H.Shelf.files c.keep_claim.new.shelf in
    record {
      ends = (
        f.0,
        f.1,
        rw c.refuse_keeping.ensures.status
            (claim_migrates from to f.0 (charts_of claim) f.2.0 _ _ _
            (unkept_ends (migrated_file told) to f.0 _ _ f.1 why
            (keeps_from (migrated_file told) to (Err why) old mid new c.in-Ok.ensures.same (keeps_told claim to (Err why) mid new c.in-Err-keep_claim.ensures.keeps))
            (λ e. later_risen _ _ _ c.in-Ok.ensures.never_falls (c.in-Err-keep_claim.ensures.failed (ap Err e))) c.refuse_keeping.ensures.written)),
      );
    }
