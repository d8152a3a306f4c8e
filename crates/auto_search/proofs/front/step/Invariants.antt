use Rattle.std.proofs.Common.{◌≡◌, ◌<◌, ◌≤◌, ◌+◌, ◌/◌, ◌%◌, ℕ, length, slice_index_or, Some, None}
use Rattle.auto_search.specs.Search.{stepped, MayCarry}
use Rattle.auto_search.proofs.front.step.Given as goal

abbrev pub invariant-loop-slot : goal.invariant-loop-slot
invariant-loop-slot l = record {
  size : length l.after ≡ 9;
  at : (slot : ℕ) → slot < l.slot → slot / 3 ≤ l.course.ray.now.x.zero + l.course.ray.now.x.one → slot % 3 ≤ l.course.ray.now.y.zero + l.course.ray.now.y.one
      → slice_index_or l.after slot None ≡ stepped l.course.auto.now l.course.ray.now l.place l.bit l.front (slot / 3) (slot % 3);
  only : (slot state : ℕ) → slice_index_or l.after slot None ≡ Some state → MayCarry l.course.ray.now (slot / 3) (slot % 3);
  states : (slot state : ℕ) → slice_index_or l.after slot None ≡ Some state → state < length l.course.auto.now.accept;
}
