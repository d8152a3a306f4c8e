use Rattle.claim_plan.proofs.CheckLaws.{one_is_first}
use Rattle.claim_plan.proofs.laws.one_is_first.Goals as goal

pub returns : goal.returns
returns c = one_is_first
