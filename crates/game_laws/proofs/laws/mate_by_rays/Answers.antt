use Rattle.game_laws.proofs.AnswerLemmas.{mate_by_rays}
use Rattle.game_laws.proofs.laws.mate_by_rays.Goals as goal

pub returns : goal.returns
returns c = λ p a k sound check. mate_by_rays p a k check sound
