use Rattle.std.proofs.Common.{sym}
use Rattle.auto_core.proofs.RowLemmas.{next_state-dense}
use Rattle.auto_core.proofs.auto.Auto.row_node.Goals as goal

pub returns-clause-map : goal.returns-clause-map
returns-clause-map c =
    let known = rw (← c.self.view_is) at c.requires in
    rw (← c.self.view_is) (λ letter within. sym (next_state-dense _ _ _ _ _ c.self.invariant _ _ _ known within c.index.ensures))
