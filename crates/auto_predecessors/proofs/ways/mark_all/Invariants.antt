use Rattle.std.proofs.Common.{◌≡◌, ◌<◌, ℕ, get_or, true, false}
use Rattle.auto_predecessors.specs.Ways.{MarksMore}
use Rattle.auto_predecessors.proofs.ways.mark_all.Given as goal

abbrev pub invariant-loop-place : goal.invariant-loop-place
invariant-loop-place l = record {
  more : MarksMore l.initial.marks l.initial.waiting.items l.marks l.waiting.items;
  marked : (k : ℕ) → k < l.place-index → get_or l.marks (get_or l.places k 0) false ≡ true;
}
