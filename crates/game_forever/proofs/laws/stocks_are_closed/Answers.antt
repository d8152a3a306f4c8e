use Rattle.game_forever.proofs.SetLemmas.{stock_closed}
use Rattle.game_forever.proofs.laws.stocks_are_closed.Goals as goal

pub returns : goal.returns
returns c = stock_closed
