use Rattle.mate_desk.proofs.KeptLaws.{checked_after_keep}
use Rattle.mate_desk.proofs.laws.checked_after_keep.Goals as goal

pub returns : goal.returns
returns c = checked_after_keep
