use Rattle.std.proofs.Common.{map}
use Rattle.std.specs.List.{AllZip}
use Rattle.strategy_file.specs.ClaimedAutos.{automaton_in}
use Rattle.claim_check.specs.Reduced.{IsReducedOf}
use Rattle.claim_check.proofs.reduced.reduced_ply.Given as goal

abbrev pub invariant-loop-set : goal.invariant-loop-set
invariant-loop-set l = AllZip IsReducedOf (map (λ s. automaton_in s.set) l.yielded) l.reduced.items
