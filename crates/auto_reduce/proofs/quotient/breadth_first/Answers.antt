use Rattle.std.proofs.Common.{◌≡◌, ◌<◌, get_or, length, [], arith, ap, sym, refl, ◌+◌}
use Rattle.std.proofs.lemmas.Option.{get_or_from_slice_get}
use Rattle.auto_core.specs.Automaton.{first_state, next_state}
use Rattle.auto_refine.specs.Leading.{entry_at}
use Rattle.auto_reduce.specs.Unmet.{AddsRow}
use Rattle.auto_reduce.proofs.Leads.{leads-first, leads-row, order-first, order-next, order_known, order_few}
use Rattle.auto_reduce.proofs.Numberings.{IsNumberedTo-row, IsNumberedTo-none, order-closed, led-next}
use Rattle.auto_reduce.proofs.Unmets.{AreDone-none}
use Rattle.auto_reduce.proofs.quotient.breadth_first.Goals as goal

pub loop-place-init : goal.loop-place-init
loop-place-init c =
    let a = c.args.a.now in
    let canon = c.args.canon.now in
    let order = c.in_ok-order.order in
    let over = c.diagrams-from.ensures.nodes in
    let row = entry_at canon a.shapes a.first_node in
    let leads = leads-first a canon over in
    let apart = c.in_ok-order.ensures.different in
    let adds : AddsRow row [] order = rw (c.diagrams-from.ensures.shapes, c.first_node.ensures.is) at c.in_ok-order.ensures.adds in
    record {
      order_to = order-first c.requires.canonical leads adds apart;
      numbered = IsNumberedTo-row a canon row 0 (first_state a) [] order leads adds apart (IsNumberedTo-none a canon) (omega arith) (λ letter. refl)
          (λ row letter none below. absurd (omega (arith, none)));
      within = omega arith;
      done = AreDone-none (entry_at canon a.shapes) order c.args.kept.now.done c.requires.done;
    }

pub row_node-row-requires : goal.row_node-row-requires
row_node-row-requires c =
    let sizes = ap length c.as_slice.ensures.states in
    let here : c.loop-place.place < length c.loop-place.order = omega (arith, sizes, c.loop-place-test.true) in
    rw c.as_slice-in-loop-place.ensures.states
    (order_known c.requires.canonical c.loop-place.place c.loop-place.invariant.order_to here)

pub add_row-requires-clause-some : goal.add_row-requires-clause-some
add_row-requires-clause-some c = let sizes = ap length c.as_slice.ensures.states in omega (arith, sizes, c.loop-place-test.true)

pub loop-place-smaller : goal.loop-place-smaller
loop-place-smaller c =
    let few = order_few c.requires.canonical c.loop-place.invariant.order_to in
    let sizes = ap length c.as_slice.ensures.states in
    omega (arith, sizes, few, c.loop-place-test.true)

pub loop-place-preserved : goal.loop-place-preserved
loop-place-preserved c =
    let a = c.args.a.now in
    let canon = c.args.canon.now in
    let old = c.loop-place.order in
    let new = c.add_row.new.order in
    let place = c.loop-place.place in
    let state = get_or c.loop-place.order c.loop-place.place 0 in
    let o = c.loop-place.invariant.order_to in
    let sizes = ap length c.as_slice.ensures.states in
    let here : c.loop-place.place < length c.loop-place.order = omega (arith, sizes, c.loop-place-test.true) in
    let known = order_known c.requires.canonical place o here in
    let leads = leads-row a canon c.diagrams-from.ensures.nodes state known in
    let row = entry_at canon a.shapes (get_or a.row_nodes state 0) in
    let node : c.row_node-row.result ≡ get_or a.row_nodes state 0 =
    sym (get_or_from_slice_get a.row_nodes state c.row_node-row.result 0 (rw c.as_slice-in-loop-place.ensures.states at c.row_node-row.ensures.is)) in
    let apart = c.in_ok-add_row.ensures.different in
    let adds : AddsRow row old new = rw (c.diagrams-from.ensures.shapes, node) at c.in_ok-add_row.ensures.adds in
    let longer = adds.longer in
    record {
      order_to = order-next c.requires.canonical state leads o here refl adds apart;
      numbered = IsNumberedTo-row a canon row (place + 1) (next_state a state) old new leads adds apart c.loop-place.invariant.numbered
          (omega (arith, here)) (λ letter. led-next a canon old place letter) (order-closed o);
      within = omega (arith, here, longer);
      done = rw c.diagrams-from.ensures.shapes at c.in_ok-add_row.ensures.done;
    }
