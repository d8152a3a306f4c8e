use Rattle.auto_search.specs.Entries.{BeginsAlong, KeepsLists}
use Rattle.auto_search.proofs.met.VisitTable.begin.Given as goal

abbrev pub invariant-loop-slot : goal.invariant-loop-slot
invariant-loop-slot l = record {
  begins : BeginsAlong l.course l.self l.slot;
  sizes : KeepsLists l.fn.self l.self;
}
