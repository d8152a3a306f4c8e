use Rattle.std.proofs.Common.{◌≢◌, AllPairs, take}
use Rattle.auto_reduce.specs.Quotient.{AddsAll}
use Rattle.auto_reduce.proofs.order.StateOrder.add_all.Given as goal

abbrev pub invariant-loop-state : goal.invariant-loop-state
invariant-loop-state l = record {
  adds : AddsAll l.initial.self l.self (take l.state-index l.states);
  different : AllPairs (λ x y. x ≢ y) l.self;
}
