use Rattle.std.proofs.Common.{◌≤◌, ◌+◌, ◌-◌, length}
use Rattle.auto_refine.specs.Leading.{entry_at}
use Rattle.auto_reduce.specs.Quotient.{IsOrderTo}
use Rattle.auto_reduce.specs.Unmet.{AreDone}
use Rattle.auto_reduce.specs.Numbering.{IsNumberedTo}
use Rattle.auto_reduce.proofs.quotient.breadth_first.Given as goal

abbrev pub invariant-loop-place : goal.invariant-loop-place
invariant-loop-place l = record {
  order_to : IsOrderTo l.a l.canon l.order l.place;
  numbered : IsNumberedTo l.a l.canon l.order (l.place + 1);
  within : l.place ≤ length l.order;
  done : AreDone (entry_at l.canon l.a.shapes) l.order l.kept.done;
}

abbrev pub decreases-loop-place : goal.decreases-loop-place
decreases-loop-place l = length l.a.accept - l.place
