use Rattle.std.proofs.Common.{◌≡◌, ◌<◌, length, All}
use Rattle.auto_predecessors.specs.Ways.{KeepsMarks, AreClimbed, AreOwnersBelow, work_left}
use Rattle.auto_predecessors.proofs.ways.climb.Given as goal

abbrev pub invariant-loop-place : goal.invariant-loop-place
invariant-loop-place l = record {
  size : length l.marks ≡ length l.initial.marks;
  waits : All (λ place. place < length l.initial.marks) l.waiting.items;
  kept : KeepsMarks l.initial.marks l.marks;
  climbed : AreClimbed l.above l.owners l.marks l.waiting.items l.found.items;
  within : AreOwnersBelow l.owners l.found.items;
}

abbrev pub decreases-loop-place : goal.decreases-loop-place
decreases-loop-place l = work_left l.marks l.waiting.items
