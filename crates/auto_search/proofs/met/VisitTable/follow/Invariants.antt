use Rattle.auto_search.specs.Met.{moment}
use Rattle.auto_search.specs.Entries.{WalksAlong}
use Rattle.auto_search.proofs.met.VisitTable.follow.Given as goal

abbrev pub invariant-loop-slot : goal.invariant-loop-slot
invariant-loop-slot l =
    WalksAlong l.course l.fn.self l.self l.starts (moment l.entry l.bit 0) (moment l.entry l.bit l.slot)
