use Rattle.claim_plan.proofs.ClaimLemmas.{sets_have_claimed_tuples}
use Rattle.claim_plan.proofs.laws.sets_have_claimed_tuples.Goals as goal

pub returns : goal.returns
returns c = sets_have_claimed_tuples
