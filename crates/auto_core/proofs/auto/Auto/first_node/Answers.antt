use Rattle.std.proofs.Common.{sym}
use Rattle.auto_core.proofs.RowLemmas.{get_or-row_of}
use Rattle.auto_core.proofs.auto.Auto.first_node.Goals as goal

pub returns-clause-map : goal.returns-clause-map
returns-clause-map c = rw (← c.self.view_is) (λ letter within. sym (get_or-row_of _ _ _ letter within))
