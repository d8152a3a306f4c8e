use Rattle.std.proofs.Common.{◌-◌, length}
use Rattle.auto_core.proofs.sums.+row.Given as goal

abbrev pub decreases-row : goal.decreases-row
decreases-row l = length l.weights.now - l.track
