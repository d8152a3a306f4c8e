use Rattle.std.proofs.Common.{◌≡◌, ◌<◌, ◌/◌, ◌%◌, ℕ, length, slice_index_or, Some, None}
use Rattle.auto_search.specs.Search.{started}
use Rattle.auto_search.proofs.front.start.Given as goal

abbrev pub invariant-loop-slot : goal.invariant-loop-slot
invariant-loop-slot l = record {
  size : length l.front ≡ 9;
  at : (slot : ℕ) → slot < l.slot → slice_index_or l.front slot None ≡ started l.course.auto.now l.course.ray.now (slot / 3) (slot % 3);
  states : (slot state : ℕ) → slice_index_or l.front slot None ≡ Some state → state < length l.course.auto.now.accept;
}
