use Rattle.strategy_writer.specs.KeptClaims.{as_claim}
use Rattle.strategy_writer.proofs.Lengths.{written_length}
use Rattle.strategy_writer.proofs.writing.length_of.Goals as goal

pub returns-clause-length : goal.returns-clause-length
returns-clause-length c = written_length (as_claim c.args.claim.now) c.men_length.result c.sets_length.result c.men_length.ensures.length (rw c.as_slice.ensures.value at c.sets_length.ensures.length)
