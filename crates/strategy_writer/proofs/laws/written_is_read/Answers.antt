use Rattle.strategy_writer.proofs.WrittenLemmas as lemmas
use Rattle.strategy_writer.proofs.laws.written_is_read.Goals as goal

pub returns : goal.returns
returns c = lemmas.written_is_read
