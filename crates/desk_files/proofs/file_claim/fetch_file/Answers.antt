use Rattle.std.proofs.Common.{◌≡◌, Result, Err, sym, subst, rules}
use Rattle.strategy_file.specs.declared.claim.Claim.{Claim}
use Rattle.desk_files.specs.FileClaim.{ReadsFile}
use Rattle.desk_files.specs.declared.file_claim.NoClaim.{NoClaim}
use Rattle.desk_files.proofs.FileClaims.{not_fetched, reads}
use Rattle.desk_files.proofs.file_claim.fetch_file.Goals as goal

pub returns-in_err-bytes-clause-reads : goal.returns-in_err-bytes-clause-reads
returns-in_err-bytes-clause-reads g c =
    let f = c.in_err-bytes.ensures.fetched in
    let why = c.in_err-bytes.field-0.0 in
    let P : Result Claim NoClaim → Type 0 = λ r. ReadsFile c.args.name.now f.0 r in
    let is : c.from_residual.result ≡ Err why = search rules in
    (f.0, f.1, subst P (sym is) (not_fetched c.args.name.now f.0 why f.2))

pub returns-clause-reads : goal.returns-clause-reads
returns-clause-reads g c =
    let f = c.in_ok-bytes.ensures.fetched in
    (f.0, f.1, reads c.args.name.now f.0 c.in_ok-bytes.bytes.items f.2.0 f.2.1 c.read_claim.result c.read_claim.ensures.reads)
