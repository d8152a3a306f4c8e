use Rattle.std.proofs.Common.{length}
use Rattle.auto_project.proofs.join.+united.Given as goal

abbrev pub decreases-united : goal.decreases-united
decreases-united l = length l.nodes.now
