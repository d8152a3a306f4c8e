use Rattle.std.proofs.Common.{◌≡◌, map, take, neg_ℤ, All}
use Rattle.auto_core.specs.Sums.{IsSmall}
use Rattle.auto_core.proofs.terms.negated.Given as goal

abbrev pub invariant-loop-weight : goal.invariant-loop-weight
invariant-loop-weight l = record {
  opposite : l.opposite.items ≡ map neg_ℤ (take l.weight-index l.weights);
  small : All IsSmall l.weights;
}
