use Rattle.mate_desk.proofs.Rows.{one_report}
use Rattle.mate_desk.proofs.laws.reports_once.Goals as goal

pub returns : goal.returns
returns c = one_report
