use Rattle.game_laws.proofs.OpenLemmas.{bears_openly, openly_bears}
use Rattle.game_laws.proofs.laws.men_bear_over_open_lines.Goals as goal

pub returns : goal.returns
returns c = λ p m z. (bears_openly p m z, openly_bears p m z)
