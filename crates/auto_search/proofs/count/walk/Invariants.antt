use Rattle.std.proofs.Common.{◌≡◌, length}
use Rattle.auto_search.specs.Marks.{Serves, SameRoom}
use Rattle.auto_search.specs.Entries.{HasCounted, KeepsLists}
use Rattle.auto_search.proofs.count.walk.Given as goal

abbrev pub invariant-loop-entry : goal.invariant-loop-entry
invariant-loop-entry l = record {
  counting : HasCounted l.course l.room.met l.starts l.entry l.few;
  serves : Serves l.course.auto.now l.course.ray.now l.room.marks;
  room : SameRoom l.fn.room.marks l.room.marks;
  sizes : KeepsLists l.fn.room.met l.room.met;
  size : length l.room.met.slots.items ≡ l.entry-end;
}
