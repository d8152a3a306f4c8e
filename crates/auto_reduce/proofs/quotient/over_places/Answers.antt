use Rattle.std.proofs.Common.{arith, ◌∙◌, ap, sym, subst, length}
use Rattle.auto_reduce.specs.Quotient.{ArePlaces, IsQuotientBy}
use Rattle.auto_reduce.proofs.Leads.{order_within, order_few, order_some}
use Rattle.auto_reduce.proofs.Quotients.{all_known, all_in_table, AreRows-made, IsQuotientBy-made}
use Rattle.auto_reduce.proofs.quotient.over_places.Goals as goal

pub place_table-requires-clause-canon : goal.place_table-requires-clause-canon
place_table-requires-clause-canon c = rw c.states-states.ensures.states c.requires.canonical.within

pub place_table-requires-clause-below : goal.place_table-requires-clause-below
place_table-requires-clause-below c = rw c.states-states.ensures.states (order_within c.requires.canonical c.requires.order)

pub place_table-requires-clause-some : goal.place_table-requires-clause-some
place_table-requires-clause-some c = order_some c.requires.canonical c.requires.order

pub place_table-requires-clause-few : goal.place_table-requires-clause-few
place_table-requires-clause-few c = rw c.states-states.ensures.states (order_few c.requires.canonical c.requires.order)

pub first_and_picked-requires : goal.first_and_picked-requires
first_and_picked-requires c =
    rw c.diagrams-from.ensures.nodes.nodes.rows_size (order_within c.requires.canonical c.requires.order)

pub mapped_nodes-requires-clause-known : goal.mapped_nodes-requires-clause-known
mapped_nodes-requires-clause-known c =
    let nodes = c.in_ok-nodes.ensures in
    let p : ArePlaces c.args.canon.now c.args.order.now (length c.args.a.now.accept) c.in_ok-table.table.items = rw c.states-states.ensures.states at c.in_ok-table.ensures in
    rw (c.diagrams-from.ensures.shapes, c.as_slice.ensures.value, nodes.is)
    (all_known c.diagrams-from.ensures.nodes c.requires.canonical c.requires.order p.are_numbers p.are_class_numbers nodes.are_picked)

pub mapped_nodes-requires-clause-leaves : goal.mapped_nodes-requires-clause-leaves
mapped_nodes-requires-clause-leaves c =
    let nodes = c.in_ok-nodes.ensures in
    let p : ArePlaces c.args.canon.now c.args.order.now (length c.args.a.now.accept) c.in_ok-table.table.items = rw c.states-states.ensures.states at c.in_ok-table.ensures in
    rw (c.diagrams-from.ensures.shapes, c.as_slice.ensures.value, c.as_slice-2.ensures.value, nodes.is)
    (all_in_table c.diagrams-from.ensures.nodes c.requires.canonical c.requires.order p.are_numbers p.are_class_numbers nodes.are_picked)

pub over_rows-requires-clause-order : goal.over_rows-requires-clause-order
over_rows-requires-clause-order c = order_within c.requires.canonical c.requires.order

pub over_rows-requires-clause-some : goal.over_rows-requires-clause-some
over_rows-requires-clause-some c =
    let size = c.in_ok-rows.ensures.led.size in
    let value = ap length (c.as_slice.ensures.value ∙ c.in_ok-nodes.ensures.is) in
    omega (arith, size, value)

pub over_rows-requires-clause-rows : goal.over_rows-requires-clause-rows
over_rows-requires-clause-rows c =
    let nodes = c.in_ok-nodes.ensures in
    let p : ArePlaces c.args.canon.now c.args.order.now (length c.args.a.now.accept) c.in_ok-table.table.items = rw c.states-states.ensures.states at c.in_ok-table.ensures in
    let led = rw (c.diagrams-from.ensures.shapes, c.as_slice.ensures.value, c.as_slice-2.ensures.value, nodes.is) at c.in_ok-rows.ensures.led in
    record {
      are_rows = AreRows-made c.diagrams-from.ensures.nodes c.requires.canonical c.requires.order p.are_numbers p.are_class_numbers nodes.are_picked c.mapped_nodes.new.to c.in_ok-rows.rows.items led;
    }

pub returns : goal.returns
returns c =
    let nodes = c.in_ok-nodes.ensures in
    let p : ArePlaces c.args.canon.now c.args.order.now (length c.args.a.now.accept) c.in_ok-table.table.items = rw c.states-states.ensures.states at c.in_ok-table.ensures in
    let led = rw (c.diagrams-from.ensures.shapes, c.as_slice.ensures.value, c.as_slice-2.ensures.value, nodes.is) at c.in_ok-rows.ensures.led in
    let m = c.in_ok-m.ensures in
    subst (IsQuotientBy c.args.a.now c.args.canon.now c.args.order.now) (sym m.is)
    (IsQuotientBy-made c.diagrams-from.ensures.nodes c.requires.canonical c.requires.order
    p.are_numbers p.are_class_numbers nodes.are_picked c.mapped_nodes.new.to c.in_ok-rows.rows.items led m.flags m.are_flags)
