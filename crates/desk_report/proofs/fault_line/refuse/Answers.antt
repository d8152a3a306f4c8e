use Rattle.desk_report.proofs.Writing.{fault_line}
use Rattle.desk_report.proofs.fault_line.refuse.Goals as goal

pub returns-clause-written : goal.returns-clause-written
returns-clause-written g c = fault_line c.put_all.result _ _ _ _ c.put_all.ensures.all c.put_all.ensures.err c.put_all.ensures.failed
