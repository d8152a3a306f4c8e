use Rattle.std.proofs.Common.{arith, subst, get_or}
use Rattle.std.proofs.lemmas.List.{get_or_read}
use Rattle.letter_diagram.specs.Leaves.{AreLeaves}
use Rattle.auto_refine.specs.Leading.{entry_at, IsLedFrom}
use Rattle.auto_reduce.proofs.Unmets.{AddsRow-first}
use Rattle.auto_reduce.proofs.unmet.first_met.Goals as goal

pub returns-clause-adds : goal.returns-clause-adds
returns-clause-adds c =
    let shapes = c.mapped_nodes.new.to in
    let nodes = c.in_ok-led.led.items in
    let leaves = c.in_ok-leaves.leaves.items in
    let added = rw (c.new-order.ensures, c.as_slice.ensures.value) at c.in_ok-add_all.ensures.adds in
    let led : IsLedFrom c.args.from.now shapes c.args.canon.now c.args.row (get_or nodes 0 0) = c.in_ok-led.ensures.led.each 0 (omega arith) in
    let size = c.in_ok-led.ensures.led.size in
    let node = get_or_read nodes 0 c.index.result.now (omega (arith, size)) c.index.ensures 0 in
    let are_leaves = subst (λ n. AreLeaves shapes n leaves) node c.in_ok-leaves.ensures in
    AddsRow-first (entry_at c.args.canon.now c.args.from.now c.args.row) led.map are_leaves added c.add_all.ensures.different
