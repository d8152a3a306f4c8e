use Rattle.table_plan.proofs.TableOnce.{ends_once}
use Rattle.table_plan.proofs.laws.tables_end_once.Goals as goal

pub returns : goal.returns
returns c = ends_once
