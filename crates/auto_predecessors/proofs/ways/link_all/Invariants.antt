use Rattle.std.proofs.Common.{◌≡◌, ◌<◌, ℕ, length, slice_get, Some}
use Rattle.auto_predecessors.specs.declared.ways.PlaceTarget.{PlaceTarget}
use Rattle.auto_predecessors.specs.Ways.{IsLinked, AreListedBelow}
use Rattle.auto_predecessors.proofs.ways.link_all.Given as goal

abbrev pub invariant-loop-place : goal.invariant-loop-place
invariant-loop-place l = record {
  above_size : length l.above ≡ length l.initial.above;
  leaves_size : length l.leaves ≡ length l.initial.leaves;
  above_below : AreListedBelow l.above l.place;
  leaves_below : AreListedBelow l.leaves l.place;
  linked : (place : ℕ) (way : PlaceTarget) → place < l.place → slice_get l.ways place ≡ Some way → IsLinked l.above l.leaves place way;
}
