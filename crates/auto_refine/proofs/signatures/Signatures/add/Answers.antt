use Rattle.letter_diagram.proofs.PairNumbers.{AllPairs-from_unique, PairsKept-insert}
use Rattle.auto_refine.proofs.signatures.Signatures.add.Goals as goal

pub invariant_of-self-2 : goal.invariant_of-self-2
invariant_of-self-2 c = AllPairs-from_unique _ c.in_ok-number.ensures.unique

pub returns-clause-kept : goal.returns-clause-kept
returns-clause-kept c = rw (← c.self.view_is) (PairsKept-insert _ _ _ c.in_ok-number.ensures.keys)
