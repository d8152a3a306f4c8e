use Rattle.desk_stock.proofs.RoundTrip.{text_is_one}
use Rattle.desk_stock.proofs.laws.lines_are_one_text.Goals as goal

pub returns : goal.returns
returns c = text_is_one
