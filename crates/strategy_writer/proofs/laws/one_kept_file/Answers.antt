use Rattle.strategy_writer.proofs.KeptFiles as lemmas
use Rattle.strategy_writer.proofs.laws.one_kept_file.Goals as goal

pub returns : goal.returns
returns c = lemmas.one_kept_file
