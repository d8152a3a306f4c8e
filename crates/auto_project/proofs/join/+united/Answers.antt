use Rattle.auto_project.proofs.Joins.{IsUnionOf-both, front-sets, back-sets}
use Rattle.auto_project.proofs.join.+united.Goals as goal

pub returns-clause-united : goal.returns-clause-united
returns-clause-united t c =
    let a = c.in_ok-a.ensures in
    let b = c.in_ok-b.ensures in
    let e = c.in_ok-node.ensures in
    let parts = c.split_at.ensures.by_index.0 in
    IsUnionOf-both c.args.merger.now.shapes c.args.merger.now.sets _ parts (front-sets _ _ _ _ _ parts c.requires.sets)
    (back-sets _ _ _ _ _ parts c.requires.sets) a.grows a.kept b.grows b.kept e.grows e.kept a.united b.united e.united
