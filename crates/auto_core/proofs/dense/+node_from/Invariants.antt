use Rattle.std.proofs.Common.{◌-◌}
use Rattle.auto_core.proofs.dense.+node_from.Given as goal

abbrev pub decreases-node_from : goal.decreases-node_from
decreases-node_from l = l.tracks - l.track
