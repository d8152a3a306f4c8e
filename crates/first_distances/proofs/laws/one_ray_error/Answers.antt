use Rattle.first_distances.proofs.LawLemmas.{one_ray_error}
use Rattle.first_distances.proofs.laws.one_ray_error.Goals as goal

pub returns : goal.returns
returns c = one_ray_error
