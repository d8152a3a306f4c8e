use Rattle.strategy_writer.specs.KeptClaims.{as_claim}
use Rattle.strategy_writer.proofs.writing.write_claim.Goals as goal

pub returns-clause-file : goal.returns-clause-file
returns-clause-file c = record { reduced = as_claim c.in_ok-reduced.reduced; is = c.in_ok-reduced.ensures; file = c.in_ok-bytes.ensures.written }
