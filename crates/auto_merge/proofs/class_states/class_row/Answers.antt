use Rattle.auto_merge.proofs.ClassStates.{IsClassRow-led}
use Rattle.auto_merge.proofs.Mergings.{owner_at, owner_within, IsRowAt-more}
use Rattle.auto_merge.proofs.class_states.class_row.Goals as goal

pub row-spot-requires-clause-known : goal.row-spot-requires-clause-known
row-spot-requires-clause-known g c =
    let m = c.requires.merging in
    owner_within m.classes c.args.class c.index-owner.result.now (owner_at c.args.merging.now.owners.items c.args.class c.index-owner.result.now c.requires.known c.index-owner.ensures)

pub returns-clause-node : goal.returns-clause-node
returns-clause-node g c =
    let e = c.in_ok-node.ensures in
    let at = owner_at c.args.merging.now.owners.items c.args.class c.index-owner.result.now c.requires.known c.index-owner.ensures in
    IsClassRow-led e.merging.seen.different (e.kept.owners c.args.class c.index-owner.result.now at) (IsRowAt-more e.kept.numbers c.row-spot.ensures) e.node
