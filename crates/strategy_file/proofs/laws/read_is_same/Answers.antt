use Rattle.strategy_file.proofs.SameReads as lemmas
use Rattle.strategy_file.proofs.laws.read_is_same.Goals as goal

pub returns : goal.returns
returns c = lemmas.read_is_same
