use Rattle.loser_session.specs.Defending.{seen}
use Rattle.loser_session.proofs.Defending.{all_saved}
use Rattle.loser_session.proofs.Matches.{unmated}
use Rattle.loser_session.proofs.laws.never_mated.Goals as goal

pub returns : goal.returns
returns c = λ g typed games keeps defends. (unmated (seen g) keeps.unwon, all_saved g typed games keeps defends)
