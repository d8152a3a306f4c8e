use Rattle.std.proofs.Common.{length}
use Rattle.shift_image.proofs.share.+start_colours.Given as goal

abbrev pub decreases-start_colours : goal.decreases-start_colours
decreases-start_colours l = length l.shifts.now
