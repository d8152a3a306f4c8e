use Rattle.std.proofs.Common.{◌≡◌, ◌==◌, if◌then◌else◌, map, take, None}
use Rattle.mate_plan.proofs.starting.level_at.Given as goal

abbrev pub invariant-loop-other : goal.invariant-loop-other
invariant-loop-other l = l.names ≡ map (λ m. if m == l.mask then l.name else None) (take l.other-index l.bench.masks.now)
