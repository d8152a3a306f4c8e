use Rattle.std.proofs.Common.{◌≡◌, ◌<◌, ℕ, get_or, true, false}
use Rattle.auto_predecessors.specs.Ways.{MarksMore, IsListed}
use Rattle.auto_predecessors.proofs.ways.mark_leaves.Given as goal

abbrev pub invariant-loop-state : goal.invariant-loop-state
invariant-loop-state l = record {
  more : MarksMore l.initial.marks l.initial.waiting.items l.marks l.waiting.items;
  started : (k place : ℕ) → k < l.state-index → IsListed l.leaves (get_or l.states k 0) place → get_or l.marks place false ≡ true;
}
