use Rattle.std.proofs.Common.{◌≡◌, length, take}
use Rattle.std.specs.List.{fold}
use Rattle.letter_diagram.specs.Probing.{spread_of}
use Rattle.letter_diagram.proofs.sets.start.Given as goal

abbrev pub invariant-loop-element : goal.invariant-loop-element
invariant-loop-element l = l.start ≡ fold spread_of (length l.set) (take l.element-index l.set)
