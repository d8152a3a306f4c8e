use Rattle.std.proofs.Common.{◌≡◌, ◌<◌, ℕ, Some, slice_get, map}
use Rattle.letter_diagram.specs.OpenTable.{number_at}
use Rattle.letter_diagram.specs.Sets.{start_of}
use Rattle.letter_diagram.proofs.sets.find.Given as goal

abbrev pub invariant-loop-step : goal.invariant-loop-step
invariant-loop-step l = (k : ℕ) → k < l.step → slice_get (map (λ s. s.items) l.sets) (number_at l.slots (start_of l.set) k) ≡ Some l.set → ⊥
