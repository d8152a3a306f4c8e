use Rattle.std.proofs.Common.{rules, subst}
use Rattle.chess_game.specs.Near.{IsNarrowPosition}
use Rattle.strategy_writer.specs.SolvedFile.{IsFileRefusal}
use Rattle.strategy_writer.specs.KeptClaims.{as_claim}
use Rattle.strategy_file.specs.declared.version.Version.TheVariants.{Shared}
use Rattle.strategy_file.proofs.Greatest.{fits_newest}
use Rattle.strategy_writer.proofs.SolvedFiles.{claim_has_file, file_refusal}
use Rattle.strategy_writer.proofs.writing.write_file.Goals as goal

pub returns-clause-file : goal.returns-clause-file
returns-clause-file c =
    let s = c.args.solved.now in
    let of = c.in_ok-claim.ensures.claim in
    let valid = c.in_ok-claim.ensures.valid in
    let narrow : IsNarrowPosition s.position = subst IsNarrowPosition of.position c.in_ok-bytes.ensures.narrow in
    record {
      claim = as_claim c.in_ok-claim.claim;
      of = of;
      has_file = claim_has_file s valid Shared c.requires.kings (fits_newest s.winner s.position valid.few) narrow (as_claim c.in_ok-claim.claim) of c.in_ok-claim.ensures.few;
      bytes_are = c.in_ok-bytes.ensures.written;
    }

pub returns-in_err-claim-clause-refused : goal.returns-in_err-claim-clause-refused
returns-in_err-claim-clause-refused c =
    let refusal : IsFileRefusal Shared c.args.solved.now c.in_err-claim.field-0.0 = c.in_err-claim.ensures.refused Shared in search rules

pub returns-in_err-bytes-clause-refused : goal.returns-in_err-bytes-clause-refused
returns-in_err-bytes-clause-refused c =
    let refusal : IsFileRefusal Shared c.args.solved.now c.in_err-bytes.field-0.0 =
    file_refusal Shared c.args.solved.now (as_claim c.in_ok-claim.claim) c.in_ok-claim.ensures.claim c.in_ok-claim.ensures.few c.in_err-bytes.field-0.0
    c.in_err-bytes.ensures.refused in
    search rules
