use Rattle.std.proofs.Common.{length}
use Rattle.shift_image.proofs.movable.+have_distinct_vars.Given as goal

abbrev pub decreases-have_distinct_vars : goal.decreases-have_distinct_vars
decreases-have_distinct_vars l = length l.shifts.now
