use Rattle.strategy_file.proofs.SharedReads.{IsAutomaton-over}
use Rattle.strategy_file.proofs.shared.SharedAuto.new.Goals as goal

pub returns-clause-valid : goal.returns-clause-valid
returns-clause-valid c = IsAutomaton-over c.requires
