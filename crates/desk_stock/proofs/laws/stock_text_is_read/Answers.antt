use Rattle.desk_stock.proofs.RoundTrip.{text_is_read}
use Rattle.desk_stock.proofs.laws.stock_text_is_read.Goals as goal

pub returns : goal.returns
returns c = text_is_read
