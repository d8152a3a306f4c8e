use Rattle.auto_core.proofs.RowLemmas.{IsAutomaton-dense}
use Rattle.auto_core.proofs.auto.Auto.states.Goals as goal

pub returns-clause-valid : goal.returns-clause-valid
returns-clause-valid c = rw (← c.self.view_is) (IsAutomaton-dense c.self.invariant)
