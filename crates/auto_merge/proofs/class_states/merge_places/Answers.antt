use Rattle.std.proofs.Common.{rules, ◌≡◌}
use Rattle.auto_walk.proofs.WalkWords.{is_dense}
use Rattle.auto_merge.proofs.ClassStates.{AreRows-classes}
use Rattle.auto_merge.proofs.Flags.{IsRowTo-settled, AreMade-merging, IsMerged-merging}
use Rattle.auto_merge.proofs.class_states.merge_places.Goals as goal

pub from_diagrams-requires : goal.from_diagrams-requires
from_diagrams-requires g c =
    let e = c.in_ok-nodes.ensures in
    let first = IsRowTo-settled (g.R.RowSource.graph c.args.rows.now).walker.first c.in_ok-first.ensures.merging e.kept c.first.ensures c.in_ok-first.ensures.node in
    let made = AreMade-merging c.tracks.ensures.valid e.merging first e.rows e.size c.in_ok-accept.ensures in
    let copied : c.in_ok-tracks.tracks.items ≡ c.tracks.result.now = search rules in
    rw (copied, c.tracks.ensures.tracks, c.into_diagrams.ensures) (AreRows-classes made)

pub returns-clause-ok : goal.returns-clause-ok
returns-clause-ok g c =
    let e = c.in_ok-nodes.ensures in
    let first = IsRowTo-settled (g.R.RowSource.graph c.args.rows.now).walker.first c.in_ok-first.ensures.merging e.kept c.first.ensures c.in_ok-first.ensures.node in
    let made = AreMade-merging c.tracks.ensures.valid e.merging first e.rows e.size c.in_ok-accept.ensures in
    let copied : c.in_ok-tracks.tracks.items ≡ c.tracks.result.now = search rules in
    let auto = c.from_diagrams.ensures in
    let is = is_dense _ _ _ _ _ _ auto.tracks auto.first auto.next auto.accept auto.shapes auto.first_node auto.row_nodes in
    rw (is, copied, c.tracks.ensures.tracks, c.into_diagrams.ensures) (IsMerged-merging e.merging made)
