use Rattle.auto_core.proofs.RowLemmas.{IsAutomaton-dense}
use Rattle.auto_core.proofs.auto.Auto.from_diagrams.Goals as goal

pub returns-clause-valid : goal.returns-clause-valid
returns-clause-valid c = IsAutomaton-dense c.requires
