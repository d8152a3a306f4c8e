use Rattle.game_laws.proofs.RayLemmas.{step_one}
use Rattle.game_laws.proofs.laws.steps_lie_on_one_ray.Goals as goal

pub returns : goal.returns
returns c = step_one
