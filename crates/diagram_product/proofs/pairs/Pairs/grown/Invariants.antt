use Rattle.std.proofs.Common.{take}
use Rattle.letter_diagram.specs.OpenTable.{IsHashed}
use Rattle.diagram_product.specs.Pairs.{start_of}
use Rattle.diagram_product.proofs.pairs.Pairs.grown.Given as goal

abbrev pub invariant-loop-number : goal.invariant-loop-number
invariant-loop-number l = IsHashed start_of l.slots.items (take l.number l.pair-items)
