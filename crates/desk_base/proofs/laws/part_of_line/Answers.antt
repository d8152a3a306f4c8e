use Rattle.desk_base.proofs.LinesOf.{part_only}
use Rattle.desk_base.proofs.laws.part_of_line.Goals as goal

pub returns : goal.returns
returns c = λ bytes is_line. part_only bytes is_line.free is_line.short
