use Rattle.mate_desk.proofs.StatusLaws.{faults_are_counted}
use Rattle.mate_desk.proofs.laws.faults_are_counted.Goals as goal

pub returns : goal.returns
returns c = faults_are_counted
