use Rattle.auto_search.specs.Marks.{Serves, SameRoom}
use Rattle.auto_search.proofs.marks.Marks.add_all.Given as goal

abbrev pub invariant-loop-slot : goal.invariant-loop-slot
invariant-loop-slot l = record {
  serves : Serves l.course.auto.now l.course.ray.now l.self;
  room : SameRoom l.fn.self l.self;
}
