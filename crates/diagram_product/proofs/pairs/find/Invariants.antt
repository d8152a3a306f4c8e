use Rattle.std.proofs.Common.{◌≡◌, ◌<◌, ℕ, Some, slice_get}
use Rattle.letter_diagram.specs.OpenTable.{number_at}
use Rattle.diagram_product.specs.Pairs.{start_of}
use Rattle.diagram_product.proofs.pairs.find.Given as goal

abbrev pub invariant-loop-step : goal.invariant-loop-step
invariant-loop-step l = (k : ℕ) → k < l.step → slice_get l.pairs (number_at l.slots (start_of (l.a, l.b)) k) ≡ Some (l.a, l.b) → ⊥
