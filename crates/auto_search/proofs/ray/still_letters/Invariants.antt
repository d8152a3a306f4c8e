use Rattle.std.proofs.Common.{◌≡◌, ◌<◌, ℕ, length, slice_index}
use Rattle.auto_search.specs.Bits.{IsStill}
use Rattle.auto_search.proofs.ray.still_letters.Given as goal

abbrev pub invariant-loop-place : goal.invariant-loop-place
invariant-loop-place l = record {
  size : length l.still ≡ 68;
  letter : (place : ℕ) → place < l.place → IsStill l.way place (slice_index l.still place);
}
