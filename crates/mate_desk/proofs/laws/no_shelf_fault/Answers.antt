use Rattle.mate_desk.proofs.StatusLaws.{no_shelf_fault}
use Rattle.mate_desk.proofs.laws.no_shelf_fault.Goals as goal

pub returns : goal.returns
returns c = no_shelf_fault
