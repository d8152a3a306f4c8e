use Rattle.std.proofs.Common.{◌^◌, ◌∙◌, ap, arith, slice_index}
use Rattle.auto_core.specs.Dense.{IsRowFrom}
use Rattle.auto_core.proofs.Places.{place_of-first}
use Rattle.auto_core.proofs.Denses.{LooksBelow-row, row_of-is, leaves-row}
use Rattle.auto_core.proofs.dense.node_of_row.Goals as goal

row : (c : goal.In_ok-node) → IsRowFrom c.node_from.new.diagrams (2 ^ c.args.tracks) c.args.table.now 0 c.in_ok-node.node
row c = record {
  known = c.in_ok-node.ensures.part.known;
  map = λ letter. c.in_ok-node.ensures.part.map letter ∙ ap (λ k. slice_index c.args.table.now k) (place_of-first c.args.tracks letter ∙ omega arith);
}

pub returns-clause-row : goal.returns-clause-row
returns-clause-row c = row c

pub returns-clause-entries : goal.returns-clause-entries
returns-clause-entries c = row_of-is c.requires.size (row c)

pub returns-clause-narrow : goal.returns-clause-narrow
returns-clause-narrow c = LooksBelow-row c.args.tracks (row c)

pub returns-clause-leaves : goal.returns-clause-leaves
returns-clause-leaves c = λ letter. leaves-row c.args.tracks c.requires.size (row c) letter
