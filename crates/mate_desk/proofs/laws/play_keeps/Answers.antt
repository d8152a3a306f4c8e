use Rattle.mate_desk.proofs.Following.{play_keeps}
use Rattle.mate_desk.proofs.laws.play_keeps.Goals as goal

pub returns : goal.returns
returns c = play_keeps
