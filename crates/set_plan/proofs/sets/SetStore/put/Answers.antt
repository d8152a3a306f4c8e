use Rattle.std.proofs.Common.{◌∷◌, []}
use Rattle.set_plan.proofs.Kept.{grows-append, grows-same}
use Rattle.set_plan.proofs.sets.SetStore.put.Goals.{in-Ok, in-Err}
use Rattle.set_plan.proofs.sets.SetStore.put.Goals as goal

pub returns-clause-grows : goal.returns-clause-grows
returns-clause-grows c = elim c.match-put.branch [
  | in-Ok w ↦ rw (w.self-is, ← c.self.view_is) (grows-append c.self.inside.table (c.args.a ∷ []) _ w.in-Ok.ensures.ok)
  | in-Err w ↦ rw (w.self-is, ← c.self.view_is) (grows-same c.self.inside.table _ w.in-Err.ensures.err)
]
