use Rattle.stock_text.proofs.StockLemmas.{accepted_is_spelled}
use Rattle.stock_text.proofs.laws.accepted_text_is_spelled.Goals as goal

pub returns : goal.returns
returns c = accepted_is_spelled
