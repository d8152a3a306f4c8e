use Rattle.strategy_writer.proofs.SolvedFiles as lemmas
use Rattle.strategy_writer.proofs.laws.one_file.Goals as goal

pub returns : goal.returns
returns c = lemmas.one_file
