use Rattle.std.proofs.Common.{◌≢◌, AllPairs, All, subst}
use Rattle.std.specs.List.Sorted.{IsStrictlyIncreasing}
use Rattle.letter_diagram.proofs.sets.Sets.len.Goals as goal

pub returns-clause-unrepeated : goal.returns-clause-unrepeated
returns-clause-unrepeated c = subst (AllPairs (λ x y. x ≢ y)) c.self.view_is c.self.invariant.1

pub returns-clause-ascend : goal.returns-clause-ascend
returns-clause-ascend c = subst (All IsStrictlyIncreasing) c.self.view_is c.self.invariant.0
