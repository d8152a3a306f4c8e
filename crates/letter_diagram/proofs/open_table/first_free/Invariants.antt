use Rattle.std.proofs.Common.{◌≢◌, ◌<◌, ℕ}
use Rattle.letter_diagram.specs.OpenTable.{free, number_at}
use Rattle.letter_diagram.proofs.open_table.first_free.Given as goal

abbrev pub invariant-loop-step : goal.invariant-loop-step
invariant-loop-step l = (k : ℕ) → k < l.step → number_at l.slots l.start k ≢ free
