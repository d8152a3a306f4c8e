use Rattle.stock_start.proofs.Kings.{start_stands}
use Rattle.stock_start.proofs.laws.starts_stand_for_stocks.Goals as goal

pub returns : goal.returns
returns c = start_stands
