use Rattle.std.proofs.Common.{◌≡◌, ◌≤◌, ◌<◌, ◌-◌, ◌^◌, ℕ, length, slice_get, Some}
use Rattle.auto_disjoint.specs.Met.{IsMetIn}
use Rattle.auto_disjoint.specs.Meetings.{AreMet, AreFirstNodes, AreSettled}
use Rattle.auto_disjoint.proofs.apart.walk.Given as goal

abbrev pub invariant-loop-nodes : goal.invariant-loop-nodes
invariant-loop-nodes l = record {
  met : AreMet l.meeting l.met;
  first : (nodes : ℕ × ℕ) × IsMetIn l.met nodes × AreFirstNodes l.meeting nodes;
  within : l.visited ≤ length l.met;
  settled : (number : ℕ) (nodes : ℕ × ℕ) → number < l.visited → slice_get l.met number ≡ Some nodes → AreSettled l.meeting l.met nodes;
}

abbrev pub decreases-loop-nodes : goal.decreases-loop-nodes
decreases-loop-nodes l = 2 ^ 63 - l.visited
