use Rattle.claim_plan.proofs.SameClaims.{same_claims_are_checked_alike}
use Rattle.claim_plan.proofs.laws.same_claims_are_checked_alike.Goals as goal

pub returns : goal.returns
returns c = same_claims_are_checked_alike
