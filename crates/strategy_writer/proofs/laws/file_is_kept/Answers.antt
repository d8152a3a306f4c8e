use Rattle.strategy_writer.proofs.KeptFiles as lemmas
use Rattle.strategy_writer.proofs.laws.file_is_kept.Goals as goal

pub returns : goal.returns
returns c = lemmas.file_is_kept
