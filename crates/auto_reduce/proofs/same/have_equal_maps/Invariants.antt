use Rattle.std.proofs.Common.{◌≡◌, ◌<◌, ◌^◌, ℕ, get_or}
use Rattle.letter_diagram.specs.Diagram.{map_at}
use Rattle.auto_reduce.proofs.same.have_equal_maps.Given as goal

abbrev pub invariant-loop-place : goal.invariant-loop-place
invariant-loop-place l = (k letter : ℕ) → k < l.place → letter < 2 ^ 20 → map_at l.diagrams (get_or l.nodes k 0) letter ≡ map_at l.diagrams (get_or l.others k 0) letter
