use Rattle.first_distances.proofs.LawLemmas.{no_error_within}
use Rattle.first_distances.proofs.laws.no_error_within.Goals as goal

pub returns : goal.returns
returns c = no_error_within
