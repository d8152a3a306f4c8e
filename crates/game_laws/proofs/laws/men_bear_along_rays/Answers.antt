use Rattle.game_laws.proofs.RayLemmas.{bears_borne, borne_bears}
use Rattle.game_laws.proofs.laws.men_bear_along_rays.Goals as goal

pub returns : goal.returns
returns c = λ p m z. (bears_borne p m z, borne_bears p m z)
