use Rattle.std.proofs.Common.{take, map}
use Rattle.letter_diagram.specs.OpenTable.{IsHashed}
use Rattle.letter_diagram.specs.Sets.{start_of}
use Rattle.letter_diagram.proofs.sets.Sets.grown.Given as goal

abbrev pub invariant-loop-number : goal.invariant-loop-number
invariant-loop-number l = IsHashed start_of l.slots.items (take l.number (map (λ s. s.items) l.set-items))
