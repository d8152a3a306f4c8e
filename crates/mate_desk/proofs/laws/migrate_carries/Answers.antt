use Rattle.mate_desk.proofs.KeptLaws.{migrate_carries}
use Rattle.mate_desk.proofs.laws.migrate_carries.Goals as goal

pub returns : goal.returns
returns c = migrate_carries
