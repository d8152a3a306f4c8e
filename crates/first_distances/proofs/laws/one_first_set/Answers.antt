use Rattle.first_distances.proofs.LawLemmas.{one_first_set}
use Rattle.first_distances.proofs.laws.one_first_set.Goals as goal

pub returns : goal.returns
returns c = one_first_set
