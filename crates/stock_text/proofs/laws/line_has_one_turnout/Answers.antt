use Rattle.stock_text.proofs.StockLemmas.{feeds_once}
use Rattle.stock_text.proofs.laws.line_has_one_turnout.Goals as goal

pub returns : goal.returns
returns c = feeds_once
