use Rattle.std.proofs.Common.{length}
use Rattle.auto_core.proofs.member.+letter_at.Given as goal

abbrev pub decreases-letter_at : goal.decreases-letter_at
decreases-letter_at l = length l.values.now
