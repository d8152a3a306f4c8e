use Rattle.mate_plan.proofs.PlanOnce.{ends_once}
use Rattle.mate_plan.proofs.laws.plan_ends_once.Goals as goal

pub returns : goal.returns
returns c = ends_once
