use Rattle.auto_project.proofs.Joins.{picked-sets, picked-some, IsUnionRow-from}
use Rattle.auto_project.proofs.join.united_rows.Goals as goal

pub united-requires-clause-some : goal.united-requires-clause-some
united-requires-clause-some c = rw c.as_slice.ensures.value (picked-some _ _ _ c.in_ok-nodes.ensures c.requires.some)

pub united-requires-clause-sets : goal.united-requires-clause-sets
united-requires-clause-sets c = rw c.as_slice.ensures.value (picked-sets _ _ _ _ _ c.in_ok-nodes.ensures c.requires.set c.requires.rows)

pub returns-clause-union : goal.returns-clause-union
returns-clause-union c = IsUnionRow-from _ _ c.in_ok-nodes.ensures (rw c.as_slice.ensures.value at c.in_ok-node.ensures.united)
