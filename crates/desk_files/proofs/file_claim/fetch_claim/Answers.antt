use Rattle.std.proofs.Common.{◌≡◌, Result, Err, sym, subst, rules}
use Rattle.strategy_file.specs.Claims.{claim_of}
use Rattle.winning_sets.specs.Solve.{Solution}
use Rattle.desk_files.specs.FileClaim.{Fetches}
use Rattle.desk_files.specs.declared.file_claim.NoClaim.{NoClaim}
use Rattle.desk_files.proofs.FileClaims.{checks, unread_lacks}
use Rattle.desk_files.proofs.file_claim.fetch_claim.Goals as goal

pub check_claim-requires : goal.check_claim-requires
check_claim-requires g c = record { claim = c.in_ok-claim.ensures.reads.2.1 }

pub returns-in_err-claim-clause-fetches : goal.returns-in_err-claim-clause-fetches
returns-in_err-claim-clause-fetches g c =
    let f = c.in_err-claim.ensures.reads in
    let why = c.in_err-claim.field-0.0 in
    let P : Result Solution NoClaim → Type 0 = λ r. Fetches c.args.budget c.args.name.now f.0 r in
    let is : c.from_residual.result ≡ Err why = search rules in
    (f.0, f.1, subst P (sym is) (unread_lacks c.args.budget c.args.name.now f.0 why f.2))

pub returns-clause-fetches : goal.returns-clause-fetches
returns-clause-fetches g c =
    let f = c.in_ok-claim.ensures.reads in (
      f.0,
      f.1,
      checks c.args.budget c.args.name.now f.0 (claim_of c.in_ok-claim.claim) f.2.0 f.2.1 c.check_claim.result c.check_claim.ensures.checks,
    )
