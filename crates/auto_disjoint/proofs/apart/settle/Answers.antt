use Rattle.letter_diagram.proofs.PairNumbers.{PairsKept-trans}
use Rattle.auto_disjoint.proofs.MetPairs.{IsMetIn-kept}
use Rattle.auto_disjoint.proofs.MetNodes.{AreMet-add, IsMet-low, IsMet-high, AreSettled-test, IsReached-pair}
use Rattle.auto_disjoint.proofs.apart.settle.Goals as goal

pub settle_states-requires-clause-reached : goal.settle_states-requires-clause-reached
settle_states-requires-clause-reached c = IsReached-pair c.requires.nodes c.in-Pair.ensures.same

pub returns-in_ok-add-in-Test-2-clause-settled : goal.returns-in_ok-add-in-Test-2-clause-settled
returns-in_ok-add-in-Test-2-clause-settled c = λ e.
    AreSettled-test c.in-Test.test c.requires.nodes c.in-Test.ensures (IsMetIn-kept c.in_ok-add-in-Test-2.ensures.kept c.in_ok-add-in-Test.ensures.there)
    c.in_ok-add-in-Test-2.ensures.there

pub returns-in_ok-add-in-Test-2-clause-met : goal.returns-in_ok-add-in-Test-2-clause-met
returns-in_ok-add-in-Test-2-clause-met c =
    AreMet-add c.in_ok-add-in-Test-2.ensures (IsMet-high c.in-Test.test c.requires.nodes c.in-Test.ensures)
    (AreMet-add c.in_ok-add-in-Test.ensures (IsMet-low c.in-Test.test c.requires.nodes c.in-Test.ensures) c.requires.met)

pub returns-in_ok-add-in-Test-2-clause-kept : goal.returns-in_ok-add-in-Test-2-clause-kept
returns-in_ok-add-in-Test-2-clause-kept c = PairsKept-trans c.in_ok-add-in-Test.ensures.kept c.in_ok-add-in-Test-2.ensures.kept
