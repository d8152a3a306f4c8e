use Rattle.strategy_writer.proofs.WrittenClaims as lemmas
use Rattle.strategy_writer.proofs.laws.written_is_same.Goals as goal

pub returns : goal.returns
returns c = lemmas.written_is_same
