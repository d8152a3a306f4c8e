use Rattle.std.proofs.Common.{rules, ◌≡◌, ◌^◌, ◌*◌, length, refl, ◌∙◌}
use Rattle.std.proofs.lemmas.Nat.{pow_pos}
use Rattle.auto_core.specs.Dense.{IsRowFrom, AreRowsFrom}
use Rattle.auto_core.proofs.Denses.{AreRows-tables, AreRowsFrom-grows, row_of-is, rows_of-is}
use Rattle.auto_core.proofs.auto.Auto.from_rows.Goals as goal

count : (c : goal.In_ok-first_node) → c.len-count.result ≡ length c.args.tracks.items
count c = search rules

first_row : (c : goal.In_ok-first_node) → IsRowFrom c.node_of_row.new.diagrams (2 ^ length c.args.tracks.items) c.args.first.items 0 c.in_ok-first_node.first_node
first_row c = let row = c.in_ok-first_node.ensures.row in rw (← count c, ← c.as_slice-2.ensures.value) row

next_rows : (c : goal.In_ok-first_node) → AreRowsFrom c.node_of_row.new.diagrams (2 ^ length c.args.tracks.items) c.args.next.items c.in_ok-row_nodes.row_nodes.items
next_rows c =
    let rows = AreRowsFrom-grows c.in_ok-first_node.ensures.grows c.in_ok-row_nodes.ensures.nodes in
    rw (← count c, ← c.as_slice.ensures.value) rows

nodes_size : (c : goal.In_ok-first_node) → length c.in_ok-row_nodes.row_nodes.items ≡ length c.args.accept.items
nodes_size c = search rules

count-end : (c : goal.After-drop-first-2) → c.len-count.result ≡ length c.args.tracks.items
count-end c = search rules

first_row-end : (c : goal.After-drop-first-2) → IsRowFrom c.node_of_row.new.diagrams (2 ^ length c.args.tracks.items) c.args.first.items 0 c.in_ok-first_node.first_node
first_row-end c = let row = c.in_ok-first_node.ensures.row in rw (← count-end c, ← c.as_slice-2.ensures.value) row

next_rows-end : (c : goal.After-drop-first-2) → AreRowsFrom c.node_of_row.new.diagrams (2 ^ length c.args.tracks.items) c.args.next.items c.in_ok-row_nodes.row_nodes.items
next_rows-end c =
    let rows = AreRowsFrom-grows c.in_ok-first_node.ensures.grows c.in_ok-row_nodes.ensures.nodes in
    rw (← count-end c, ← c.as_slice.ensures.value) rows

nodes_size-end : (c : goal.After-drop-first-2) → length c.in_ok-row_nodes.row_nodes.items ≡ length c.args.accept.items
nodes_size-end c = search rules

pub from_diagrams-requires : goal.from_diagrams-requires
from_diagrams-requires c = AreRows-tables c.requires (nodes_size c) (first_row c) (next_rows c)

pub returns-clause-first : goal.returns-clause-first
returns-clause-first c = c.from_diagrams.ensures.first ∙ row_of-is c.requires.first_size (first_row-end c)

pub returns-clause-next : goal.returns-clause-next
returns-clause-next c = c.from_diagrams.ensures.next ∙ rows_of-is (pow_pos (length c.args.tracks.items)) (sizes c) (next_rows-end c)
  where
    sizes : (c : goal.After-drop-first-2) → length c.args.next.items ≡ length c.in_ok-row_nodes.row_nodes.items * 2 ^ length c.args.tracks.items
    sizes c = c.requires.next_size ∙ rw (nodes_size-end c) refl
