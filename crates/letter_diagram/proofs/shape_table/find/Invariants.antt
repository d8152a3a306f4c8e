use Rattle.std.proofs.Common.{◌≡◌, ◌≢◌, ◌<◌, ℕ, Some, slice_get}
use Rattle.letter_diagram.specs.OpenTable.{free, number_at}
use Rattle.letter_diagram.specs.ShapeTable.{start_of}
use Rattle.letter_diagram.proofs.shape_table.find.Given as goal

abbrev pub invariant-loop-step : goal.invariant-loop-step
invariant-loop-step l = (k : ℕ) → k < l.step
    → (number_at l.slots (start_of l.shape) k ≢ free) × (slice_get l.shapes (number_at l.slots (start_of l.shape) k) ≡ Some l.shape → ⊥)
