use Rattle.std.proofs.Common.{◌≡◌, map, take}
use Rattle.auto_core.proofs.terms.variables.Given as goal

abbrev pub invariant-loop-term : goal.invariant-loop-term
invariant-loop-term l = l.vars.items ≡ map (λ t. t.1) (take l.term-index l.terms)
