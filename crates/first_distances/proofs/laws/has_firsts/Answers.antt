use Rattle.first_distances.proofs.LawLemmas.{has_firsts}
use Rattle.first_distances.proofs.laws.has_firsts.Goals as goal

pub returns : goal.returns
returns c = has_firsts
