use Rattle.std.proofs.Common.{◌≡◌, map, take}
use Rattle.auto_core.proofs.terms.coefficients.Given as goal

abbrev pub invariant-loop-term : goal.invariant-loop-term
invariant-loop-term l = l.weights.items ≡ map (λ t. t.0) (take l.term-index l.terms)
