use Rattle.std.proofs.Common.{take}
use Rattle.letter_diagram.specs.OpenTable.{IsHashed}
use Rattle.letter_diagram.specs.ShapeTable.{start_of}
use Rattle.letter_diagram.proofs.shape_table.ShapeTable.grown.Given as goal

abbrev pub invariant-loop-number : goal.invariant-loop-number
invariant-loop-number l = IsHashed start_of l.slots.items (take l.number l.shape-items)
