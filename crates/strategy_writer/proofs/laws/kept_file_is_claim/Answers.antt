use Rattle.strategy_writer.proofs.KeptFiles as lemmas
use Rattle.strategy_writer.proofs.laws.kept_file_is_claim.Goals as goal

pub returns : goal.returns
returns c = lemmas.kept_file_is_claim
