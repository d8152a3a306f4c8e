use Rattle.line_plan.proofs.Once.{plan_ends_once}
use Rattle.line_plan.proofs.laws.plan_ends_once.Goals as goal

pub returns : goal.returns
returns c = plan_ends_once
