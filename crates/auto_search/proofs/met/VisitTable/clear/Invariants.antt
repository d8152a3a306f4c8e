use Rattle.std.proofs.Common.{◌≡◌, ◌+◌, ◌*◌, ◌<◌, ◌≤◌, ℕ, length, slice_index}
use Rattle.auto_search.proofs.met.VisitTable.clear.Given as goal

abbrev pub invariant-loop-entry : goal.invariant-loop-entry
invariant-loop-entry l = record {
  states : l.self.states.items ≡ l.fn.self.states.items;
  slots : l.self.slots.items ≡ l.fn.self.slots.items;
  size : length l.self.times.items ≡ length l.fn.self.times.items;
  left : (k : ℕ) → 0 < slice_index l.self.times.items k
      → (j : ℕ) × (l.entry ≤ j) × (j < l.fn.self.len) × (slice_index l.fn.self.states.items j * 9 + slice_index l.fn.self.slots.items j ≡ k);
}
