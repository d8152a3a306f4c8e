use Rattle.line_plan.proofs.Keeps.{plan_decides}
use Rattle.line_plan.proofs.laws.plan_decides.Goals as goal

pub returns : goal.returns
returns c = plan_decides
