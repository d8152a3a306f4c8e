use Rattle.std.proofs.Common.{refl}
use Rattle.desk_report.proofs.Writing.{fault_line}
use Rattle.mate_ports.proofs.program.refuse_words.Goals as goal

pub returns-in-Untold : goal.returns-in-Untold
returns-in-Untold g c =
    let wrote = fault_line c.put_all.result _ _ _ _ c.put_all.ensures.all c.put_all.ensures.err c.put_all.ensures.failed in
    rw c.in-Untold.is (refl, rw c.line.ensures at wrote)
