use Rattle.strategy_writer.proofs.WrittenClaims as lemmas
use Rattle.strategy_writer.proofs.laws.one_written.Goals as goal

pub returns : goal.returns
returns c = lemmas.one_written
