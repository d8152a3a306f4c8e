use Rattle.strategy_file.proofs.FileClaims as lemmas
use Rattle.strategy_file.proofs.laws.files_are_claims.Goals as goal

pub returns : goal.returns
returns c = lemmas.files_are_claims
