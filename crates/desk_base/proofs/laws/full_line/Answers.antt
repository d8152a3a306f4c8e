use Rattle.desk_base.proofs.LinesOf.{line_first}
use Rattle.desk_base.proofs.laws.full_line.Goals as goal

pub returns : goal.returns
returns c = λ line rest is_line. line_first line rest is_line.free is_line.short
