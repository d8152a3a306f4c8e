use Rattle.std.proofs.Common.{◌≡◌, Err, ap, subst}
use Rattle.std.proofs.lemmas.Result.{err_from_is_err_and}
use Rattle.strategy_writer.proofs.WrittenClaims.{written_is_same}
use Rattle.strategy_file.specs.Claims.{claim_of}
use Rattle.strategy_writer.specs.ReducedClaims.{IsWriteClaimRefusal}
use Rattle.desk_files.specs.Keeping.{unkept, unwritten}
use Rattle.desk_files.specs.Migrate.{IsMigrated, migrated_file}
use Rattle.desk_files.specs.declared.no_file.NoFile.TheVariants.{Fault}
use Rattle.desk_files.proofs.KeptFiles.{unkept_failed, unkept_keeps, unwritten_keeps, unwritten_no_fault}
use Rattle.desk_files.proofs.migrate.keep_claim.Goals as goal

pub returns-in_err-bytes-clause-keeps : goal.returns-in_err-bytes-clause-keeps
returns-in_err-bytes-clause-keeps g c =
    let claim = claim_of c.args.claim.now in
    let p = err_from_is_err_and c.from_residual.result c.from_residual.ensures.1 in
    rw (p.1, p.2)
    (unwritten_keeps (migrated_file claim) c.args.name.now c.in_err-bytes.field-0.0 (g.H.Shelf.files c.args.shelf.now)
    (λ size is. subst (IsWriteClaimRefusal claim) is c.in_err-bytes.ensures.refused)
    (λ states is. subst (IsWriteClaimRefusal claim) is c.in_err-bytes.ensures.refused))

pub returns-in_err-bytes-clause-failed : goal.returns-in_err-bytes-clause-failed
returns-in_err-bytes-clause-failed g c = λ failed.
    let error = c.in_err-bytes.field-0.0 in
    let p = err_from_is_err_and c.from_residual.result c.from_residual.ensures.1 in
    let e : unwritten error ≡ Fault = cc in
    absurd (unwritten_no_fault error e)

pub returns-in_err-keep-clause-keeps : goal.returns-in_err-keep-clause-keeps
returns-in_err-keep-clause-keeps g c =
    let claim = claim_of c.args.claim.now in
    let bytes = c.in_ok-bytes.bytes.items in
    let is_written = c.in_ok-bytes.ensures in
    let file : IsMigrated claim bytes =
    record { file = is_written.file; small = is_written.small; same = written_is_same claim bytes c.requires.claim is_written.file is_written.small } in
    let p = err_from_is_err_and c.from_residual-in_err-keep.result c.from_residual-in_err-keep.ensures.1 in
    rw (p.1, p.2)
    (unkept_keeps (migrated_file claim) c.args.name.now c.in_err-keep.field-0.0 bytes (g.H.Shelf.files c.args.shelf.now) (g.H.Shelf.files c.keep.new.self) file
    (λ is. c.in_err-keep.ensures.others (ap Err is)) (λ is. c.in_err-keep.ensures.memory (ap Err is)))

pub returns-in_err-keep-clause-failed : goal.returns-in_err-keep-clause-failed
returns-in_err-keep-clause-failed g c = λ failed.
    let error = c.in_err-keep.field-0.0 in
    let p = err_from_is_err_and c.from_residual-in_err-keep.result c.from_residual-in_err-keep.ensures.1 in
    let e : unkept error ≡ Fault = cc in
    c.in_err-keep.ensures.failed (ap Err (unkept_failed error e))

pub returns-clause-keeps : goal.returns-clause-keeps
returns-clause-keeps g c =
    let claim = claim_of c.args.claim.now in
    let bytes = c.in_ok-bytes.bytes.items in
    let is_written = c.in_ok-bytes.ensures in
    let file : IsMigrated claim bytes =
    record { file = is_written.file; small = is_written.small; same = written_is_same claim bytes c.requires.claim is_written.file is_written.small } in
    (bytes, file, rw c.as_slice.ensures.value at c.in_ok-keep.ensures.kept)
