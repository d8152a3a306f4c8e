use Rattle.std.proofs.Common.{◌<◌, ℕ, get_or}
use Rattle.letter_diagram.specs.Diagram.{Grows}
use Rattle.auto_reduce.proofs.Stables.{IsKept}
use Rattle.auto_reduce.proofs.stable.signs_stay.Given as goal

abbrev pub invariant-loop-state : goal.invariant-loop-state
invariant-loop-state l = record {
  grows : Grows l.m.shapes l.diagrams;
  kept : (k : ℕ) → k < l.state-index → IsKept l.m (get_or l.state-items k 0);
}
