use Rattle.std.proofs.Common.{arith, ap, length}
use Rattle.std.proofs.lemmas.List.{length_push}
use Rattle.auto_merge.proofs.Classes.{KeepsOwners-longer}
use Rattle.auto_merge.proofs.ClassStates.{AreClassRows-more, AreClassRows-push}
use Rattle.auto_merge.proofs.Mergings.{owners_few, Keeps-trans, HaveMore-Keeps, KeepsOwners-Keeps}
use Rattle.auto_merge.proofs.class_states.class_rows.Goals as goal

pub overflow_cast-len : goal.overflow_cast-len
overflow_cast-len g c =
    let is = c.loop-nodes.invariant in
    let few = owners_few is.merging.seen is.merging.classes in
    let most = is.merging.seen.most_few in
    let size = is.size in
    let len = c.len-in-loop-nodes-2.ensures in
    let ok = c.loop-nodes.nodes.ok in
    omega (arith, few, most, size, len, ok)

pub loop-nodes-smaller : goal.loop-nodes-smaller
loop-nodes-smaller g c =
    let is = c.loop-nodes.invariant in
    let few = owners_few is.merging.seen is.merging.classes in
    let below = c.loop-nodes-test.true in
    let longer = ap length c.in_ok-push.ensures.items in
    let longer' = length_push c.loop-nodes.nodes.items c.in_ok-node.node in
    let nodes = c.len.ensures in
    let owners = c.len-in-loop-nodes.ensures in
    let ok = c.loop-nodes.nodes.ok in
    let ok' = c.loop-nodes.merging.owners.ok in
    omega (arith, few, below, longer, longer', nodes, owners, ok, ok')

pub loop-nodes-preserved : goal.loop-nodes-preserved
loop-nodes-preserved g c =
    let is = c.loop-nodes.invariant in
    let e = c.in_ok-node.ensures in
    let below = c.loop-nodes-test.true in
    let longer = ap length c.in_ok-push.ensures.items in
    let longer' = length_push c.loop-nodes.nodes.items c.in_ok-node.node in
    let nodes = c.len.ensures in
    let owners = c.len-in-loop-nodes.ensures in
    let len = c.len-in-loop-nodes-2.ensures in
    let ok = c.loop-nodes.nodes.ok in
    let ok' = c.loop-nodes.merging.owners.ok in
    let more = KeepsOwners-longer (KeepsOwners-Keeps e.kept) in
    record {
      merging = e.merging;
      kept = Keeps-trans is.kept e.kept;
      way = e.way;
      rows =
          rw c.in_ok-push.ensures.items
          (AreClassRows-push c.len-in-loop-nodes-2.result c.in_ok-node.node (omega (arith, len, ok))
          (AreClassRows-more e.kept.numbers (HaveMore-Keeps e.kept) (KeepsOwners-Keeps e.kept) e.kept.nodes is.rows) e.node);
      size = omega (arith, below, longer, longer', nodes, owners, ok, ok', more);
    }
