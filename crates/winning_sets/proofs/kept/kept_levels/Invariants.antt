use Rattle.std.proofs.Common.{◌≡◌}
use Rattle.winning_sets.proofs.Backwards.{IsBack, whole_back}
use Rattle.winning_sets.proofs.kept.kept_levels.Given as goal

abbrev pub invariant-loop-left : goal.invariant-loop-left
invariant-loop-left l =
    IsBack l.bench.position.now l.fn.work.memo.budget (whole_back l.bench.position.now l.fn.work.sets l.reach) l.fn.work.sets l.work.sets l.reach
    l.kept.items l.left
    × (l.work.memo.budget ≡ l.fn.work.memo.budget)
