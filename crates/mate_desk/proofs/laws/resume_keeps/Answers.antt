use Rattle.mate_desk.proofs.KeptLaws.{resume_keeps}
use Rattle.mate_desk.proofs.laws.resume_keeps.Goals as goal

pub returns : goal.returns
returns c = resume_keeps
