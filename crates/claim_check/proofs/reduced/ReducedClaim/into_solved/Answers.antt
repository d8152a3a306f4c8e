use Rattle.std.proofs.Common.{sym, ap, ◌∙◌, subst}
use Rattle.winning_sets.specs.Claimed.{IsWonClaim, solution_of}
use Rattle.winning_sets.specs.declared.claimed.ClaimedSets.{ClaimedSets}
use Rattle.claim_check.proofs.reduced.ReducedClaim.into_solved.Goals as goal

pub from_sets-requires-clause-masks : goal.from_sets-requires-clause-masks
from_sets-requires-clause-masks c = c.self.invariant.masks

pub from_sets-requires-clause-valid : goal.from_sets-requires-clause-valid
from_sets-requires-clause-valid c = subst (λ (s : ClaimedSets). IsWonClaim (solution_of s)) (sym c.self.view_is) c.requires

pub returns : goal.returns
returns c = c.from_sets.ensures ∙ ap solution_of c.self.view_is
