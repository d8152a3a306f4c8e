use Rattle.formula_auto.proofs.Rooms.{ready}
use Rattle.formula_auto.proofs.PartLemmas.{compiled_on}
use Rattle.formula_auto.proofs.memo.Memo.whole_on.Goals as goal

pub compiled-requires-clause-ready : goal.compiled-requires-clause-ready
compiled-requires-clause-ready c = ready c.requires.compilable

pub returns-clause-compiled : goal.returns-clause-compiled
returns-clause-compiled c = compiled_on c.in_ok-made.ensures.ok c.in_ok-finished.ensures.same c.in_ok-finished.ensures.as_it_is c.in_ok-finished.ensures.reduced
