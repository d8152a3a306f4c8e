use Rattle.line_plan.proofs.Reaches.{reach_is_legal}
use Rattle.line_plan.proofs.laws.reach_is_legal.Goals as goal

pub returns : goal.returns
returns c = reach_is_legal
