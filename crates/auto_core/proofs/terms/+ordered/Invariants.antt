use Rattle.std.proofs.Common.{length}
use Rattle.auto_core.proofs.terms.+ordered.Given as goal

abbrev pub decreases-ordered : goal.decreases-ordered
decreases-ordered l = length l.terms.now
