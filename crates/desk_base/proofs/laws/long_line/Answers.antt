use Rattle.desk_base.proofs.LinesOf.{long_first}
use Rattle.desk_base.proofs.laws.long_line.Goals as goal

pub returns : goal.returns
returns c = λ bytes rest is_long. long_first bytes rest is_long.free is_long.long
