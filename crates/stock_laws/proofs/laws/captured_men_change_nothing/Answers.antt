use Rattle.stock_laws.proofs.AlikeGames.{captured_keeps}
use Rattle.stock_laws.proofs.laws.captured_men_change_nothing.Goals as goal

pub returns : goal.returns
returns c = captured_keeps
