use Rattle.stock_text.proofs.StockLemmas.{spelled_is_accepted}
use Rattle.stock_text.proofs.laws.spelled_text_is_accepted.Goals as goal

pub returns : goal.returns
returns c = spelled_is_accepted
