use Rattle.std.proofs.Common.{◌≡◌, ◌⊎◌, ℕ, length, slice_index_or, Some, None}
use Rattle.auto_search.specs.Search.{mark}
use Rattle.auto_search.proofs.marks.Marks.live.Given as goal

abbrev pub invariant-loop-slot : goal.invariant-loop-slot
invariant-loop-slot l = record {
  size : length l.left ≡ 9;
  kept : (slot state : ℕ) → slice_index_or l.left slot None ≡ Some state → slice_index_or l.front slot None ≡ Some state;
  others : (slot state : ℕ) → slice_index_or l.front slot None ≡ Some state
      → (slice_index_or l.left slot None ≡ Some state) ⊎ (mark l.course.auto.now l.self.failed.items l.place state slot ≡ 1);
}
