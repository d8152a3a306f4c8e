use Rattle.stock_laws.proofs.AlikeGames.{live_keeps}
use Rattle.stock_laws.proofs.laws.live_men_keep_the_value.Goals as goal

pub returns : goal.returns
returns c = live_keeps
