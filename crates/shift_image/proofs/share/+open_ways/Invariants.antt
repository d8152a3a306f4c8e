use Rattle.std.proofs.Common.{length}
use Rattle.shift_image.proofs.share.+open_ways.Given as goal

abbrev pub decreases-open_ways : goal.decreases-open_ways
decreases-open_ways l = length l.shifts.now
