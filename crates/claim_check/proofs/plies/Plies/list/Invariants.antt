use Rattle.std.proofs.Common.{◌≡◌, ◌+◌, ◌*◌, ◌-◌, ◌++◌}
use Rattle.mate_plan.specs.Claim.{every_second}
use Rattle.claim_check.proofs.plies.Plies.list.Given as goal

abbrev pub invariant-loop-before : goal.invariant-loop-before
invariant-loop-before l = l.plies.items ++ every_second (l.self.first + 2 * l.before) (l.self.count - l.before) ≡ every_second l.self.first l.self.count
