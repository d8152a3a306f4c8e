use Rattle.std.proofs.Common.{◌≤◌, length}
use Rattle.auto_core.specs.Integers.{DecidesIntegers}
use Rattle.auto_core.specs.Reduced.{AllReached}
use Rattle.auto_shift.specs.Moved.{DecidesMoved, IsWalkedTimes}
use Rattle.auto_shift.specs.Shifted.{along}
use Rattle.auto_shift.proofs.OnTheWay.{IsWithinBefore}
use Rattle.auto_shift.proofs.moving.shift_by.Given as goal

abbrev pub invariant-loop-done : goal.invariant-loop-done
invariant-loop-done l = record {
  explored : IsWalkedTimes l.up l.track l._done l.a l.moved;
  moved : DecidesMoved l.a l.moved l.track (along l.up l._done);
  integers : DecidesIntegers l.moved;
  reached : AllReached l.moved;
  few : length l.moved.accept ≤ l.budget;
  within : IsWithinBefore l.up l.track l.a l.budget l._done;
}
