use Rattle.std.proofs.Common.{length}
use Rattle.line_formula.proofs.terms.+push_terms.Given as goal

abbrev pub decreases-push_terms : goal.decreases-push_terms
decreases-push_terms l = length l.legs.now
